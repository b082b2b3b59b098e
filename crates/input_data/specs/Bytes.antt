-- A day lent as bytes, and the InputData that they stand for: SPEC 2.4 to 2.6, 3.2, 3.20. All numbers are 32 bits, the least byte first. Definitions only.
use Rattle.std.specs.Prelude.{ℕ, ◌+◌, ◌*◌, ◌-◌, ◌≡◌, Bool, cond, not, ◌||◌, List, eqb, ltb, ℤ, pos, negsuc, length, get_or}
use Rattle.counting.specs.Fold.{table_to}
use Rattle.input_data.specs.Checks.{too_many, first_of}
use Rattle.input_data.specs.declared.Limits.{Limits}
use Rattle.input_data.specs.declared.ConstraintNumbers.{ConstraintNumbers}
use Rattle.input_data.specs.declared.ConstraintList.{ConstraintList}
use Rattle.input_data.specs.declared.InputData.{InputData}
use Rattle.input_data.specs.declared.checks.Beside.{Beside}

-- a lent slice has not exactly this length
abbrev pub not_long : ℕ → List ℕ → Bool
not_long n b = not (eqb (length b) n)

abbrev pub IsDay : List ℕ → Type 0
IsDay b = length b ≡ 2044

-- four bytes, the least first
unfoldable pub word_at : List ℕ → ℕ → ℕ
word_at b at = get_or b at 0 + 256 * get_or b (at + 1) 0 + 65536 * get_or b (at + 2) 0 + 16777216 * get_or b (at + 3) 0

-- the signed number of 32 bits
unfoldable pub signed_of : ℕ → ℤ
signed_of x = cond (ltb x 2147483648) (pos x) (negsuc (4294967295 - x))

-- a flag byte is yes where it is not 0
abbrev pub flag_of : ℕ → Bool
flag_of x = not (eqb x 0)

abbrev pub flag_at : List ℕ → ℕ → Bool
flag_at b at = flag_of (get_or b at 0)

-- the fields of a day, by their places
abbrev pub min_in : List ℕ → ℕ → ℕ
min_in b k = word_at b (28 + 4 * k)

abbrev pub max_in : List ℕ → ℕ → ℕ
max_in b k = word_at b (156 + 4 * k)

abbrev pub optional_in : List ℕ → ℕ → Bool
optional_in b k = flag_at b (284 + k)

abbrev pub group_length_in : List ℕ → ℕ → ℕ
group_length_in b g = word_at b (316 + 4 * g)

abbrev pub member_in : List ℕ → ℕ → ℕ
member_in b i = word_at b (380 + 4 * i)

-- constraint j of the list whose entries begin at `at`
unfoldable pub numbers_in : List ℕ → ℕ → ℕ → ConstraintNumbers
numbers_in b at j = record {
  kind = word_at b (at + 24 * j);
  left = word_at b (at + 24 * j + 4);
  target_case = word_at b (at + 24 * j + 8);
  target = word_at b (at + 24 * j + 12);
  extra_case = word_at b (at + 24 * j + 16);
  extra = signed_of (word_at b (at + 24 * j + 20));
}

-- a list of n constraints whose entries begin at `at`
unfoldable pub list_in : List ℕ → ℕ → ℕ → ConstraintList
list_in b n at = record { count = n; entries = table_to 32 (numbers_in b at) }

unfoldable pub day_of : List ℕ → InputData
day_of b = record {
  choosers = word_at b 0;
  choices = word_at b 4;
  slots = word_at b 8;
  max_preference = word_at b 12;
  mins = table_to 32 (min_in b);
  maxs = table_to 32 (max_in b);
  optional = table_to 32 (optional_in b);
  scheduling = list_in b (word_at b 16) 508;
  assignment = list_in b (word_at b 20) 1276;
  groups = word_at b 24;
  lengths = table_to 16 (group_length_in b);
  members = table_to 32 (member_in b);
}

-- what a call tests beside the day, where something else that it is lent as bytes may have not its length
abbrev pub wider : Bool → Beside → Beside
wider wrong b = record { bad_lengths = wrong || b.bad_lengths; bad_preferences = b.bad_preferences; bad_levels = b.bad_levels; bad_costs = b.bad_costs; bad_asked = b.bad_asked }

-- The number of a call that is lent a day as bytes and that gives n where all bytes have their lengths.
-- A wrong length of the day is 2 at once, since nothing of it can be read; one of anything else is 2 in its place, after 1.
unfoldable pub lent_number : Limits → List ℕ → Bool → ℕ → ℕ
lent_number l day wrong n =
    first_of (not_long 2044 day) 2
    (first_of (too_many l (day_of day).choosers (day_of day).choices (day_of day).slots) 1
    (first_of wrong 2 n))
