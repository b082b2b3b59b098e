pub mod CarriedAgrees
