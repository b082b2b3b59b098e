-- The flow model of a day, a schedule state and a preference limit, the numbers of the calls that build it, and the plan that
-- values decode to: SPEC 3.2, 3.24, 6.1, 7.6. Definitions only.
use Rattle.std.specs.Prelude.{ℕ, Bool, false, cond, not, ◌||◌, List, eqb, ltb, ℤ, length}
use Rattle.input_data.specs.Checks.{has_bad_preferences, has_bad_costs}
use Rattle.input_data.specs.Lengths.{lists_length, preferences_length, costs_length}
use Rattle.input_data.specs.declared.Limits.{Limits}
use Rattle.input_data.specs.declared.InputData.{InputData}
use Rattle.input_data.specs.declared.checks.Beside.{Beside}
use Rattle.slot_lists.specs.Lists.{listed}
use Rattle.schedule_state.specs.Calls.{state_number, slot_list_length}
use Rattle.scheduling.specs.Handed.{kept_of}
use Rattle.input_data.specs.declared.Sizes.{Sizes}
use Rattle.schedule_state.specs.declared.AssignmentScheduleState.{AssignmentScheduleState}
use Rattle.mip_flow_static_data.specs.Nodes.{supplies}
use Rattle.mip_flow.specs.Edges.{Offer, offer, Seat, open_seats, scheduled, edges_from, edges_to, edges_max, edges_cost}
use Rattle.mip_flow.specs.Index.{edge_of}
use Rattle.model_buffers.specs.Lengths.{short_buffers, short_values}
use Rattle.model_buffers.specs.declared.Lengths.{Lengths}
use Rattle.edge_groups.specs.Names.{names}
use Rattle.edge_groups.specs.Groups.{groups_of, blocked_of}
use Rattle.edge_values.specs.Values.{Network, values_number}
use Rattle.decoding.specs.Decode.{decoded}

-- what a model is made from
pub record ModelInput : Type 0 where
  pub day : InputData
  pub state : AssignmentScheduleState
  pub limit : ℕ
  pub preferences : List ℕ
  pub costs : List ℤ
  pub lists : List ℕ

abbrev pub model_input : InputData → AssignmentScheduleState → ℕ → List ℕ → List ℤ → List ℕ → ModelInput
model_input d st limit preferences costs lists = record { day = d; state = st; limit = limit; preferences = preferences; costs = costs; lists = lists }

abbrev pub sizes_of : Limits → InputData → Sizes
sizes_of l d = record { stride = l.choices; choosers = d.choosers; choices = d.choices; slots = d.slots }

-- the entries of the state's schedule
abbrev pub entries_of : ModelInput → List ℕ
entries_of x = kept_of x.day x.state.schedule

-- the length of a slot's list, and what stands in it
abbrev pub count_of : ModelInput → ℕ → ℕ
count_of x = slot_list_length x.day x.state

abbrev pub list_of : Limits → ModelInput → ℕ → ℕ → ℕ
list_of l x = listed l.choices x.lists

abbrev pub offer_of : Limits → ModelInput → Offer
offer_of l x = offer (sizes_of l x.day) x.limit x.preferences x.state.blocks x.costs

-- the seats that have an edge, and the choices that have one
unfoldable pub seats_of : Limits → ModelInput → List Seat
seats_of l x = open_seats (offer_of l x) (count_of x) (list_of l x)

unfoldable pub choices_of : ModelInput → List ℕ
choices_of x = scheduled x.day.choices (entries_of x)

-- the edges that are named together, by number
unfoldable pub names_of : Limits → ModelInput → List (List ℕ)
names_of l x =
    names (edge_of (seats_of l x)) (sizes_of l x.day) (entries_of x) (count_of x) (list_of l x)
    x.day.assignment x.day.groups x.day.lengths x.day.members

unfoldable pub network_of : Limits → ModelInput → Network
network_of l x = record {
  from = edges_from (sizes_of l x.day) (seats_of l x) (choices_of x);
  to = edges_to (sizes_of l x.day) (entries_of x) (seats_of l x) (choices_of x);
  max = edges_max x.day.mins x.day.maxs (seats_of l x) (choices_of x);
  supplies = supplies (sizes_of l x.day) (entries_of x) x.day.mins x.state.covered;
  groups = groups_of (length (seats_of l x)) (names_of l x);
  blocked = blocked_of (length (seats_of l x)) (names_of l x);
}

unfoldable pub costs_of : Limits → ModelInput → List ℤ
costs_of l x = edges_cost (offer_of l x) (seats_of l x) (choices_of x)

-- the plan that values decode to
unfoldable pub plan_of : Limits → ModelInput → List ℤ → List ℕ
plan_of l x vs = decoded (length (seats_of l x)) vs (edge_of (seats_of l x)) (count_of x) (list_of l x) (sizes_of l x.day)

-- ---- the numbers of the calls

-- 2. The preferences or the costs have not exactly their length.
abbrev pub wrong_model_tables : ModelInput → Bool
wrong_model_tables x = not (eqb (length x.preferences) (preferences_length x.day)) || not (eqb (length x.costs) (costs_length x.day))

-- what these calls test beside the day; `short`: another buffer that the call is lent is too short
abbrev pub beside_model : Limits → ModelInput → Lengths → Bool → Beside
beside_model l x lens short = record {
  bad_lengths = wrong_model_tables x || ltb (length x.lists) (lists_length l) || short_buffers l lens || short;
  bad_preferences = has_bad_preferences x.day.max_preference x.preferences;
  bad_levels = false;
  bad_costs = has_bad_costs x.costs;
  bad_asked = false;
}

abbrev pub number_with : Limits → ModelInput → Lengths → Bool → ℕ
number_with l x lens short = state_number l x.day x.state (beside_model l x lens short) false x.lists

-- building the model
abbrev pub model_number : Limits → ModelInput → Lengths → ℕ
model_number l x lens = number_with l x lens false

-- checking values: those of the model, with a buffer of values and one for the plan, and then 14 to 17; first the number before
-- values are looked at
abbrev pub enter_number : Limits → ModelInput → Lengths → ℕ → ℕ → ℕ
enter_number l x lens values plan = number_with l x lens (short_values l values plan)

abbrev pub check_number : Limits → ModelInput → Lengths → List ℤ → ℕ → ℕ
check_number l x lens vs plan =
    cond (eqb (enter_number l x lens (length vs) plan) 0) (values_number (network_of l x) vs) (enter_number l x lens (length vs) plan)
