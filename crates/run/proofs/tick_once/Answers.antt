use mathlib.Core.Path.{refl}
use Rattle.arrays.specs.Arrays.{Arrays}
use Rattle.run.proofs.Laws.{enough, short}
use Rattle.run.proofs.Turns.{turned_full, turned_once, turns_all, turns_wake}
use Rattle.run.proofs.tick_once.Goals as goal

pub tick_fits-fits-requires : goal.tick_fits-fits-requires
tick_fits-fits-requires c = record { ready = c.requires.ready; last_is = c.requires.last_is; tasks_len = c.requires.sized.tasks; most_is = c.requires.most_is }

pub returns-then-not-fits : goal.returns-then-not-fits
returns-then-not-fits c = record {
  turned = λ left.
      let a : Arrays = record { signals = c.args.signals.now; tasks = c.args.tasks.now; latched = c.args.latched.now; held = c.args.held.now } in
      turned_full _ left _ _ _ c.requires.ready.place c.requires.at_inside (short _ _ _ _ (c.tick_fits-fits.ensures c.args.plan.now a refl) refl c.if-not-fits.true);
  moves = refl;
  watched = c.requires.watched;
}

pub step-next-requires : goal.step-next-requires
step-next-requires c = record { ready = c.requires.ready; last_is = c.requires.last_is; called_only = turns_all _ _ _ _ _ _ _ c.requires.watched c.requires.last_is c.requires.others_later; whole_bodies = c.requires.whole_bodies }

pub refresh-requires : goal.refresh-requires
refresh-requires c = (c.requires.ready.rows, turns_wake _ _ _ _ _ _ _ c.requires.watched c.requires.last_is c.requires.others_later _ _ _ _ _ refl refl c.step-next.ensures.stepped)

pub returns : goal.returns
returns c = record {
  turned = λ left.
      let a : Arrays = record { signals = c.args.signals.now; tasks = c.args.tasks.now; latched = c.args.latched.now; held = c.args.held.now } in
      turned_once _ left _ _ _ c.requires.ready.place c.requires.at_inside _ _ _ c.step-next.ensures.stepped c.step-next.ensures.near
      (enough _ _ _ _ (c.tick_fits-fits.ensures c.args.plan.now a refl) refl c.if-not-fits.false);
  moves = refl;
  watched = record { distinct = c.requires.watched.distinct; instants = c.refresh.ensures };
}
