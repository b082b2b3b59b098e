-- What lies behind a `&mut` as a call begins and as it ends. SPEC 2.17. Definitions only.
use Rattle.std.specs.Borrow.{MutBor}
use denote.Triple.Both.{Both}

abbrev pub old : {A B : Type 0} → Both (MutBor A) (MutBor B) → A
old x = x.entry.now

abbrev pub new : {A B : Type 0} → Both (MutBor A) (MutBor B) → B
new x = x.exit.now
