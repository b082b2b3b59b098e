-- A solution, by the parts that it has: SPEC 11.1. Definitions only.

pub data Solution : Type 0 where
  Invalid : Solution
  Scheduling : Solution
  Complete : Solution
