use Rattle.std.proofs.Common.{◌≡◌, ◌-◌, length, take, drop, subst, sym, ◌∙◌, rules}
use Rattle.std.proofs.Math.Seq.{take-add}
use Rattle.std.proofs.lemmas.List.{take_rest}
use Rattle.std.specs.Io.KnownBytes.{Appends}
use Rattle.std.proofs.KnownBytes.{Appends-trans}
use Rattle.open_queries.proofs.output.write_all.Goals as goal

-- what the sink took is the front of the rest of the piece
pub loop-done-preserved : goal.loop-done-preserved
loop-done-preserved g c =
    let held = g.K.Sink.held in
    let piece = c.args.piece.now in
    let done = c.loop-done.done in
    let taken = c.in-Ok.taken in
    let rest : take (length piece - done)
    (drop done piece) ≡ drop done piece = take_rest piece done in
    let told = subst (λ l. Appends (held c.loop-done.sink) (held c.write.new.self)
    (take taken l)) rest c.in-Ok.ensures.bytes in
    record {
      within = search rules;
      taken = subst (λ l. Appends (held c.args.sink.now) (held c.write.new.self) l)
          (sym (take-add done taken piece))
          (Appends-trans (held c.args.sink.now) (held c.loop-done.sink) (held c.write.new.self)
          (take done piece) (take taken (drop done piece)) c.loop-done.invariant.taken told);
      steady = c.in-Ok.ensures.steady ∙ c.loop-done.invariant.steady;
    }
