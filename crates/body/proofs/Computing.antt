-- What a definition of this crate computes with.
use Rattle.body.specs.Body.{in_turn, sooner, after, move, do_action, supervise, control, body}

-- what a body leaves: a proof that computes it says `unfolding computing_body`
unfoldable pub computing_body : Unit {0}
unfolding in_turn sooner after move do_action supervise control body
computing_body = tt
