-- The model of a call's lent input, in the lent buffers: what writing it asks, and what it leaves. SPEC 6.12. Definitions only.
use Rattle.std.specs.Prelude.{ℕ, ◌<◌, ◌≡◌, Bool, List, ℤ, Result, IfOk, length}
use Rattle.std.specs.Result.{OnErr}
use Rattle.counting.specs.Written.{written}
use Rattle.refusal.specs.Number.{outcome}
use Rattle.refusal.specs.declared.Refusal.{Refusal}
use Rattle.input_data.specs.Bytes.{day_of, lent_number}
use Rattle.input_data.specs.Lengths.{Within}
use Rattle.input_data.specs.declared.InputData.{InputData}
use Rattle.input_data.specs.declared.Limits.{Limits}
use Rattle.scheduling.specs.Schedule.{entry_at}
use Rattle.schedule_state.specs.Bytes.{state_in, not_state}
use Rattle.schedule_state.specs.declared.AssignmentScheduleState.{AssignmentScheduleState}
use Rattle.model_buffers.specs.Buffers.{Buffers, lengths_of}
use Rattle.model_buffers.specs.Lent.{held, lent_with}
use Rattle.model_buffers.specs.declared.Lengths.{Lengths}
use Rattle.model_buffers.specs.declared.LentInput.{LentInput}
use Rattle.model_buffers.specs.declared.buffers.LentBuffers.{LentBuffers}
use Rattle.slot_lists.specs.declared.lists.SlotLists.{SlotLists}
use Rattle.mip_flow.specs.IndexLaws.{number_at}
use Rattle.mip_flow.specs.Index.{edge_of}
use Rattle.edge_groups.specs.Groups.{flat, ends_from}
use Rattle.plans.specs.Model.{ModelInput, model_input, sizes_of, count_of, seats_of, network_of, costs_of, number_with}
use Rattle.flow_model.specs.declared.FlowModel.{FlowModel}

-- the buffers with the finished model at their fronts; what lies behind is as it was
unfoldable pub with_model : Limits → ModelInput → Buffers → Buffers
with_model l x b = record {
  supplies = written b.supplies 0 (network_of l x).supplies;
  from = written b.from 0 (network_of l x).from;
  to = written b.to 0 (network_of l x).to;
  max = written b.max 0 (network_of l x).max;
  cost = written b.cost 0 (costs_of l x);
  entries = written b.entries 0 (flat (network_of l x).groups);
  ends = written b.ends 0 (ends_from 0 (network_of l x).groups);
  blocked = written b.blocked 0 (network_of l x).blocked;
}

-- a call's input that was tested, with the lengths of the buffers
pub record Buildable (l : Limits) (x : ModelInput) (lens : Lengths) : Type 0 where
  pub within : Within l
  pub short : Bool
  pub number : number_with l x lens short ≡ 0

-- the slots' lists of a call's input, with their lengths
pub record IsLists (l : Limits) (x : ModelInput) (s : SlotLists) : Type 0 where
  pub bytes : s.bytes.now ≡ x.lists
  pub stride : s.stride ≡ l.choices
  pub lens : entry_at s.lens ≡ count_of x

-- the model was written: the buffers, the numbers of the seats' edges, the slots' lists that it was made by, and how much is used
pub record ModelMade (l : Limits) (x : ModelInput) (b b' : LentBuffers) (m : FlowModel) : Type 0 where
  pub buffers : b' ≡ lent_with b (with_model l x (held b))
  pub numbers : (c k : ℕ) → c < 64 → k < 32 → number_at m.index.numbers c k ≡ edge_of (seats_of l x) c k
  pub seats : m.index.count ≡ length (seats_of l x)
  pub sizes : m.sizes ≡ sizes_of l x.day
  pub lists : IsLists l x m.lists
  pub edges : m.counts.edges ≡ length (network_of l x).from
  pub entries : m.counts.entries ≡ length (flat (network_of l x).groups)
  pub groups : m.counts.groups ≡ length (network_of l x).groups
  pub blocked : m.counts.blocked ≡ length (network_of l x).blocked

-- what a day, a state and their tables stand for
abbrev pub lent_input : List ℕ → List ℕ → ℕ → List ℕ → List ℤ → List ℕ → ModelInput
lent_input day st limit preferences costs lists = model_input (day_of day) (state_in st) limit preferences costs lists

-- the same with the tables in one struct
abbrev pub input_of : InputData → AssignmentScheduleState → LentInput → ModelInput
input_of d st i = model_input d st i.limit i.preferences.now i.costs.now i.lists.now

abbrev pub call_input : List ℕ → List ℕ → LentInput → ModelInput
call_input day st i = input_of (day_of day) (state_in st) i

-- the number of a call on these, before values are looked at; `short`: another buffer that the call is lent is too short
abbrev pub lent_number_with : Limits → List ℕ → List ℕ → ModelInput → Lengths → Bool → ℕ
lent_number_with l day st x lens short = lent_number l day (not_state st) (number_with l x lens short)

-- input whose number is n was tested: refused with the buffers as they were, or else its model was written
pub record EnteredWith (n : ℕ) (l : Limits) (x : ModelInput) (b b' : LentBuffers) (r : Result FlowModel Refusal) : Type 0 where
  pub number : outcome r ≡ n
  pub kept : OnErr r (b' ≡ b)
  pub made : IfOk r (ModelMade l x b b')

abbrev pub EnteredLent : Limits → List ℕ → List ℕ → ModelInput → Bool → LentBuffers → LentBuffers → Result FlowModel Refusal → Type 0
EnteredLent l day st x short b b' r = EnteredWith (lent_number_with l day st x (lengths_of (held b)) short) l x b b' r
