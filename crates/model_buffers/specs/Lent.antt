-- The eight buffers as a call is lent them. SPEC 6.12. Definitions only.
use Rattle.model_buffers.specs.declared.buffers.LentBuffers.{LentBuffers}
use Rattle.model_buffers.specs.Buffers.{Buffers, buffers}
use Rattle.model_buffers.specs.Stored.{holding}

-- what stands in them
abbrev pub held : LentBuffers → Buffers
held b = buffers b.supplies.now b.from.now b.to.now b.max.now b.cost.now b.entries.now b.ends.now b.blocked.now

-- the same buffers, with these lists in them
abbrev pub lent_with : LentBuffers → Buffers → LentBuffers
lent_with b c = record {
  supplies = holding b.supplies c.supplies;
  from = holding b.from c.from;
  to = holding b.to c.to;
  max = holding b.max c.max;
  cost = holding b.cost c.cost;
  entries = holding b.entries c.entries;
  ends = holding b.ends c.ends;
  blocked = holding b.blocked c.blocked;
}
