-- A search with its setting. Definitions only.
use Rattle.std.specs.Prelude.{ℕ, Bool, true, false, List, Some, None}
use Rattle.preference_search.specs.Steps.{Step, over, search_with}
use Rattle.preference_search.specs.declared.CachedAssignment.{CachedAssignment}
use Rattle.preference_search.specs.declared.Known.{Known}
use Rattle.preference_search.specs.declared.Range.{Range}
use Rattle.preference_search.specs.declared.Search.{Search}
use Rattle.preference_search_steps.specs.declared.setting.Setting.{Setting}
use Rattle.preference_search_steps.specs.declared.setting.Setting.TheVariants as Case

abbrev pub is_greedy : Setting → Bool
is_greedy Case.Greedy = true
is_greedy (Case.Levels r) = false

abbrev pub no_range : Range
no_range = record { start = 0; low = 0; high = 0 }

abbrev pub range_of : Setting → Range
range_of Case.Greedy = no_range
range_of (Case.Levels None) = no_range
range_of (Case.Levels (Some r)) = r

abbrev pub search_at : Bool → Setting → ℕ → List ℕ → Known → CachedAssignment → Search
search_at asking s asks entries k c = search_with asking (is_greedy s) asks (range_of s).start (range_of s).low (range_of s).high entries k c

abbrev pub over_at : Setting → ℕ → List ℕ → Known → CachedAssignment → Step
over_at s asks entries k c = over (is_greedy s) asks (range_of s).start (range_of s).low (range_of s).high entries k c
