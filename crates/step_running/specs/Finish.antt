-- What running a body comes to over the lent arrays: what steps/specs/Flat.antt says of it, array by array.
use Rattle.std.specs.Prelude.{ℕ, ◌≡◌, List}
use Rattle.body.specs.Body.{Result}
use Rattle.arrays.specs.Arrays.{Arrays}
use Rattle.steps.specs.Flat.{with_ports, finish_task}

-- a body that leaves a result has run on the ports of task i
pub record Ran (left : Result) (i : ℕ) (old-held new-held : List ℕ) (next : ℕ) : Type 0 where
  pub machine : next ≡ left.machine
  pub held : new-held ≡ with_ports old-held i left.held

-- the body of task i has run and the task is FINISHED; signals and latched inputs stay
pub record Finished (ws : List ℕ) (i : ℕ) (latched old-tasks new-tasks old-held new-held : List ℕ) : Type 0 where
  pub arrays : (signals : List ℕ)
      → ◌≡◌ {A = Arrays} (record { signals = signals; tasks = new-tasks; latched = latched; held = new-held })
      (finish_task ws i (record { signals = signals; tasks = old-tasks; latched = latched; held = old-held }))
