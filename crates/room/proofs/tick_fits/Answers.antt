use mathlib.Core.Path.{sym}
use native.Mathlib.Omega.{arith}
use Rattle.room.proofs.Laws.{events_few, bound_fits}
use Rattle.room.proofs.tick_fits.Goals as goal

pub overflow_sub-asked : goal.overflow_sub-asked
overflow_sub-asked c = (events_few _ _ _ _ _ c.requires.ready c.requires.last_is).0

pub overflow_mul-bound : goal.overflow_mul-bound
overflow_mul-bound c = let few = (events_few _ _ _ _ _ c.requires.ready c.requires.last_is).1 in omega arith

pub overflow_add-bound : goal.overflow_add-bound
overflow_add-bound c = let few = (events_few _ _ _ _ _ c.requires.ready c.requires.last_is).1 in let m = c.requires.most_is.1 in omega arith

pub overflow_mul-bound-2 : goal.overflow_mul-bound-2
overflow_mul-bound-2 c = let few = (events_few _ _ _ _ _ c.requires.ready c.requires.last_is).1 in let m = c.requires.most_is.1 in omega arith

pub overflow_add-bound-2 : goal.overflow_add-bound-2
overflow_add-bound-2 c = let few = (events_few _ _ _ _ _ c.requires.ready c.requires.last_is).1 in let m = c.requires.most_is.1 in let w = c.requires.ready.word in omega arith

pub returns-then-bound-words : goal.returns-then-bound-words
returns-then-bound-words c = λ plan a e. sym (bound_fits _ _ _ a _ _ _ _ c.requires.last_is c.requires.most_is.0 c.if-bound-words.true)

pub returns : goal.returns
returns c = λ plan a e. rw (c.records_end-end.ensures plan a e)
