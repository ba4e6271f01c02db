-- The call is a step of a session.
use Rattle.std.proofs.Common.{◌≡◌, refl, sym, ap, ◌∙◌, subst, arith, take, ◌++◌, length, drop}
use Rattle.open_session.specs.Moments.{moment_of}
use Rattle.open_session.proofs.Here.{here_of}
use Rattle.std.proofs.lemmas.List.{take_at}
use Rattle.open_queries.specs.Answers.{GivesAs}
use Rattle.open_session.specs.Cursors.{asks, stands}
use Rattle.query_requests.proofs.NextLemmas.{next_step}
use Rattle.query_requests.proofs.FrameLemmas.{given_shards}
use Rattle.query_requests.proofs.asking.next.Goals as goal

pub returns-clause-answers : goal.returns-clause-answers
returns-clause-answers g c = λ desk upkeep line asked history s stands'.
    let ready = c.requires.ready.is_config in
    let held = g.K.Sink.held in
    let p = here_of c.args.config.now (moment_of desk c.args.session.now c.args.meters.now upkeep)
    (held c.args.sink.now) line history s stands' in
    let m = c.args.meters.now in
    let first = c.as_mut-before in
    let last = c.as_mut-after in
    let same : take (length m) (first.result.now ++ drop (length first.result.now) m) ≡ m =
    ap (λ l. take (length m) (l ++ drop (length l) m)) first.ensures.value
    ∙ take_at m (drop (length m) m) (length m) refl in
    let told = c.next-said.new.meters in
    let end = take (length told) (last.result.now ++ drop (length last.result.now) told) in
    let same_end : end ≡ told =
    ap (λ l. take (length told) (l ++ drop (length l) told)) last.ensures.value
    ∙ take_at told (drop (length told) told) (length told) refl in
    let number : length end ≡ length m =
    omega (
      arith,
      ap length same_end,
      first.ensures.sixteen,
      ap length first.ensures.value,
      last.ensures.sixteen,
      ap length last.ensures.value,
    ) in
    let from_here = subst (λ from. GivesAs (asks {W = g.row.W}) (stands {W = g.row.W}) c.args.session.now.queries
    c.args.tag.now c.args.count (held c.args.sink.now) (held c.next-said.new.sink) from told
    c.next-said.result c.next-said.new.self) same c.next-said.ensures.gives in
    let gives = subst (λ to. GivesAs (asks {W = g.row.W}) (stands {W = g.row.W}) c.args.session.now.queries
    c.args.tag.now c.args.count (held c.args.sink.now) (held c.next-said.new.sink) m to
    c.next-said.result c.next-said.new.self) (sym same_end) from_here in
    next_step p (held c.next-said.new.sink) c.next-said.result _ c.args.tag.now c.args.count asked ready refl refl refl refl refl number gives

pub returns-clause-shards : goal.returns-clause-shards
returns-clause-shards g c =
    let held = g.K.Sink.held in
    given_shards c.args.config.now.shards c.args.session.now.queries c.next-said.new.self c.requires.shards
    c.args.tag.now c.args.count (held c.args.sink.now) (held c.next-said.new.sink) _ _ c.next-said.result
    c.next-said.ensures.gives
