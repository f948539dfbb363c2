use Rattle.std.proofs.Common.{◌≡◌, ◌∙◌, min, map, rules}
use Rattle.std.specs.List.{fold}
use Rattle.urgent.specs.Urgent.{no_rank, key_of}
use Rattle.urgent.proofs.Laws.{least_fold}
use Rattle.urgent.proofs.most_urgent.Goals as goal

pub returns : goal.returns
returns c = let e : c.fold.result ≡ fold min no_rank (map key_of c.args.records.now) = search rules in e ∙ least_fold c.args.records.now
