-- A search and what it remembers, lent as bytes, and what they stand for: SPEC 2.9, 2.10. Definitions only.
use Rattle.std.specs.Prelude.{ℕ, ◌≡◌, Bool, List, length, take, drop}
use Rattle.input_data.specs.Bytes.{not_long, word_at, flag_at}
use Rattle.scheduling.specs.Handed.{schedule_of}
use Rattle.preference_search.specs.declared.CachedAssignment.{CachedAssignment}
use Rattle.preference_search.specs.declared.Search.{Search}

abbrev pub IsCached : List ℕ → Type 0
IsCached b = length b ≡ 546

abbrev pub IsSearch : List ℕ → Type 0
IsSearch b = length b ≡ 1114

-- 2 of their bytes
abbrev pub not_cached : List ℕ → Bool
not_cached b = not_long 546 b

abbrev pub not_search : List ℕ → Bool
not_search b = not_long 1114 b

-- what a search remembers: two flags, a schedule, a plan
abbrev pub cached_in : List ℕ → CachedAssignment
cached_in b = record { there = flag_at b 0; greedy = flag_at b 1; schedule = schedule_of (take 32 (drop 2 b)); plan = take 512 (drop 34 b) }

abbrev pub search_in : List ℕ → Search
search_in b = record {
  asking = flag_at b 0;
  greedy = flag_at b 1;
  found = flag_at b 2;
  optimal = flag_at b 3;
  asks = word_at b 4;
  level = word_at b 8;
  start = word_at b 12;
  low = word_at b 16;
  high = word_at b 20;
  schedule = schedule_of (take 32 (drop 24 b));
  plan = take 512 (drop 56 b);
  cached = cached_in (take 546 (drop 568 b));
}
