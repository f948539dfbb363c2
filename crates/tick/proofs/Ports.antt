-- What the steps of a tick do to a task's latched inputs, held outputs and machine state: they stay as a state that fits has them.
use Prim.Native.Nat.{ℕ}
use mathlib.Core.Path.{◌≡◌, ◌∙◌, subst⁻¹}
use mathlib.Core.Logic.{◌⊎◌, inl, inr}
use mathlib.Core.List.{List, map}
use native.Mathlib.Omega.{arith}
use lib.ListN.{length, get_or, length-map}
use Rattle.limits.specs.Limits.{max_ports, max_state}
use Rattle.lists.specs.Lists.{Between, PaddedFrom}
use Rattle.lists.proofs.Laws.{length-tab}
use Rattle.lists.proofs.Tests.{every_weaker}
use Rattle.plan.specs.File.{Task}
use Rattle.plan.specs.Accepted.{TransitionGood, Body}
use Rattle.events.specs.Events.{Event}
use Rattle.body.proofs.Keeps.{body-padded, supervisor-machine, controller_machine}
use Rattle.state.specs.State.{value_at}
use Rattle.state.specs.Fitting.{PortSizes, TaskFits}
use Rattle.state.specs.declared.TaskState.{TaskState}
use Rattle.state.proofs.Zeros.{zeros_iff, zeros_pad}
use Rattle.tick.specs.Turns.{finish, deadline_turn, release, release_turn, run_turn}
use Rattle.tick.proofs.Values.{SameValues, deadline_values, release-values, run_values}
use Rattle.tick.proofs.Timed.{Flight, StandsAt, stands, timed}

-- zeros beyond the inputs and the outputs, and the machine state of the kind
pub record PortsFit (k : Task) (x : TaskState) : Type 0 where
  pub inputs : PaddedFrom (length k.inputs) max_ports x.latched
  pub outputs : PaddedFrom (length k.outputs) max_ports x.held
  pub supervisor : k.kind ≡ 1 → Between 1 max_state x.machine
  pub controller : k.kind ≡ 2 → x.machine ≡ 0

-- the same values
same_fit : (k : Task) (x y : TaskState) → SameValues x y → PortsFit k x → PortsFit k y
same_fit k x y e h = record {
  inputs = subst⁻¹ (PaddedFrom (length k.inputs) max_ports) e.latched h.inputs;
  outputs = subst⁻¹ (PaddedFrom (length k.outputs) max_ports) e.held h.outputs;
  supervisor = λ one. subst⁻¹ (Between 1 max_state) e.machine (h.supervisor one);
  controller = λ two. e.machine ∙ h.controller two;
}

-- ---- step 1 changes none of it
pub deadline_ports : (t i : ℕ) (k : Task) (x : TaskState) → PortsFit k x → PortsFit k (deadline_turn t i k x).state
deadline_ports t i k x h = same_fit k x _ (deadline_values t i k x) h

-- ---- step 2: "latch all inputs"
latched_ports : (t : ℕ) (signals : List ℕ) (k : Task) (x : TaskState) → PortsFit k x → PortsFit k (release t signals k x)
latched_ports t signals k x h =
    let values = map (value_at signals) k.inputs in
    let size : length values ≡ length k.inputs = length-map k.inputs (value_at signals) in
    record {
      inputs = record {
        size = length-tab (λ j. get_or values j 0) 0 max_ports;
        zeros = (zeros_iff (length k.inputs) _).0 (zeros_pad (length k.inputs) max_ports values (omega arith));
      };
      outputs = h.outputs;
      supervisor = h.supervisor;
      controller = h.controller;
    }

-- whatever a released task goes on with keeps it
pub release-ports : (start : Task → TaskState → TaskState) (t : ℕ) (signals : List ℕ) (now : List Event) (i : ℕ) (k : Task) (x : TaskState)
    → ((y : TaskState) → PortsFit k y → PortsFit k (start k y)) → PortsFit k x → PortsFit k (release_turn start t signals now i k x).state
release-ports start t signals now i k x keeps h = go (release-values start t signals now i k x)
  where
    y : TaskState
    y = (release_turn start t signals now i k x).state

    go : SameValues x y ⊎ (y ≡ start k (release t signals k x)) → PortsFit k y
    go (inl e) = same_fit k x y e h
    go (inr e) = subst⁻¹ (PortsFit k) e (keeps (release t signals k x) (latched_ports t signals k x h))

-- ---- step 3: "its body runs once"
module _ (s : ℕ) (k : Task) (good : Body s k) where
  pub finish-ports : (x : TaskState) → PortsFit k x → PortsFit k (finish k x)
  finish-ports x h = record {
    inputs = h.inputs;
    outputs = body-padded s k good x.latched x.machine x.held h.outputs;
    supervisor = λ one.
        supervisor-machine k x.latched x.machine x.held one
        (every_weaker (TransitionGood (length k.inputs)) (λ y. Between 1 max_state y.to) (λ y g. g.to) k.transitions good.transitions) (h.supervisor one);
    controller = λ two. controller_machine k x.latched x.machine x.held (λ one. absurd (omega arith)) ∙ h.controller two;
  }

  -- whether or not the body runs in this tick
  pub run_ports : (t i : ℕ) (x : TaskState) → PortsFit k x → PortsFit k (run_turn t i k x).state
  run_ports t i x h = go (run_values t i k x)
    where
      y : TaskState
      y = (run_turn t i k x).state

      go : SameValues x y ⊎ SameValues (finish k x) y → PortsFit k y
      go (inl e) = same_fit k x y e h
      go (inr e) = same_fit k (finish k x) y e (finish-ports x h)

-- ---- a task state that fits
module _ (t : ℕ) (k : Task) (x : TaskState) where
  -- its status, remaining ticks and release instant
  pub fits-stands : TaskFits t k x → StandsAt Flight t k x
  fits-stands h = stands t k x.remaining x.release x.status h.timed

  -- its lists and machine state
  pub fits-ports : PortSizes x → TaskFits t k x → PortsFit k x
  fits-ports size h = record {
    inputs = record { size = size.latched; zeros = h.latched };
    outputs = record { size = size.held; zeros = h.held };
    supervisor = h.supervisor;
    controller = h.controller;
  }

  -- and the other way round
  pub both_fit : StandsAt Flight t k x → PortsFit k x → TaskFits t k x
  both_fit a b = record {
    timed = timed t k x.remaining x.release x.status a;
    latched = b.inputs.zeros;
    held = b.outputs.zeros;
    supervisor = b.supervisor;
    controller = b.controller;
  }

-- "8 latched inputs, 8 held outputs"
pub ports_sized : (k : Task) (x : TaskState) → PortsFit k x → PortSizes x
ports_sized k x h = record { latched = h.inputs.size; held = h.outputs.size }
