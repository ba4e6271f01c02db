use Rattle.std.proofs.Common.{◌≡◌, ◌<◌, ◌^◌, ◌∷◌, ℕ, List, length, All, sym, ap, ◌∙◌, subst}
use Rattle.std.proofs.lemmas.List.Elements.{All-head, All-tail}
use Rattle.shard_walk.specs.Planned.{part_of}
use Rattle.shard_walk.specs.Walks.{Place, BeginsValue, value_begun}
use Rattle.shard_walk.proofs.WalkLemmas.{value_begins}
use Rattle.shard_walk.proofs.walk.Walk.begin_value.Goals as goal

pub next-requires : goal.next-requires
next-requires g c = record {
  flips = c.flips.ensures ∙ ap (λ (w : Place). length (part_of c.args.plan.now w.part)) c.self.view_is ∙ sym c.requires.place.width
      ∙ sym (ap (λ (w : Place). w.width) c.self.view_is);
}

pub returns-clause-begun : goal.returns-clause-begun
returns-clause-begun g c = λ _.
    let p = c.args.plan.now in
    let own = c.args.self.now in
    let left = c.next.new.self in
    let first : own.ball ≡ c.in-Some.value ∷ left.values = ap (λ (w : Place). w.ball) (sym c.self.view_is) ∙ c.in-Some.ensures.first in
    let all : All (λ value. value < 2 ^ length (part_of p own.part)) (c.in-Some.value ∷ left.values) =
    subst (All (λ value. value < 2 ^ length (part_of p own.part))) first c.requires.place.ball in
    let below = All-head (λ value. value < 2 ^ length (part_of p own.part)) c.in-Some.value left.values all in
    let rest = All-tail (λ value. value < 2 ^ length (part_of p own.part)) c.in-Some.value left.values all in
    let begins = value_begins p own c.requires.place c.requires.list_done c.in-Some.value left.values first below rest in
    let begun : ℕ → ℕ → Place = λ width size. record {
      part = c.self.inside.part;
      width = width;
      ball = left.values;
      value = c.in-Some.value;
      next = 0;
      size = size;
    } in
    let same : value_begun p own c.in-Some.value left.values ≡ begun left.width c.list_len-self-inside.result =
    ap (λ w. value_begun p w c.in-Some.value left.values) (sym c.self.view_is)
    ∙ ap (begun c.self.inside.ball.width) (sym c.list_len-self-inside.ensures)
    ∙ ap (λ width. begun width c.list_len-self-inside.result) (sym c.next.ensures.width) in
    subst (BeginsValue p own) same begins
