-- The lemmas on shards and fronts along histories that are cut.
use Rattle.world_bridge.proofs.CutLemmas.{comes_cut, front_cut, known_cut, rule_cut}
use Rattle.world_bridge.proofs.cut_laws.shards_follow_cut_histories.Goals as goal

pub returns : goal.returns
returns c = record {
  rule = rule_cut;
  comes = comes_cut;
  known = λ bits live history front known. known_cut bits front live history known;
  is_front = front_cut;
}
