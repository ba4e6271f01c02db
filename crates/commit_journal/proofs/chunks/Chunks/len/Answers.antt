-- Each chunk has as many entries.
use Rattle.std.proofs.Common.{rules, ◌≡◌, arith, length}
use Rattle.std.proofs.lemmas.List.{length-map}
use Rattle.entry_log.specs.Entries.{kept_entry}
use Rattle.commit_journal.specs.Chunks.{chunk_items, joined_chunks}
use Rattle.commit_journal.proofs.ChunkLemmas.{length_joined}
use Rattle.commit_journal.proofs.chunks.Chunks.len.Goals as goal

pub overflow_mul-result : goal.overflow_mul-result
overflow_mul-result g c =
    record { fits = omega (arith, length_joined chunk_items c.self.inside.all.items c.self.invariant.full, c.len.ensures, c.self.invariant.few) }

pub returns-clause-number : goal.returns-clause-number
returns-clause-number g c =
    let all = length_joined chunk_items c.self.inside.all.items c.self.invariant.full in
    let number : c.len.result ≡ length c.self.inside.all.items = search rules in
    rw (← c.self.view_is) (omega (arith, all, number, length-map (joined_chunks c.self.inside.all.items) kept_entry))

pub returns-clause-few : goal.returns-clause-few
returns-clause-few g c =
    let all = length_joined chunk_items c.self.inside.all.items c.self.invariant.full in
    let number : c.len.result ≡ length c.self.inside.all.items = search rules in
    omega (arith, all, number, c.self.invariant.few)
