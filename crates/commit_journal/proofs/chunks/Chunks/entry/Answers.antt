-- The entry stands in the chunk of its place.
use Rattle.std.proofs.Common.{◌<◌, ◌/◌, ◌%◌, ◌∙◌, ap, arith, get_or, sym, length, List}
use Rattle.std.proofs.lemmas.List.{get_or-map, length-map}
use Rattle.hamming_model.specs.History.{JournalEntry}
use Rattle.entry_log.specs.Entries.{kept_entry}
use Rattle.commit_journal.specs.Chunks.{chunk_items, joined_chunks}
use Rattle.commit_journal.specs.declared.chunks.TheConstants.{CHUNK}
use Rattle.commit_journal.proofs.ChunkLemmas.{chunk_at, in_chunk, length_joined}
use Rattle.commit_journal.proofs.chunks.Chunks.entry.Goals as goal

pub index-requires : goal.index-requires
index-requires g c =
    let all = length_joined chunk_items c.self.inside.all.items c.self.invariant.full in
    let seen = ap length c.self.view_is in
    omega (arith, all, seen, length-map (joined_chunks c.self.inside.all.items) kept_entry, c.requires)

pub index-requires-2 : goal.index-requires-2
index-requires-2 g c =
    let all = length_joined chunk_items c.self.inside.all.items c.self.invariant.full in
    let seen = ap length c.self.view_is in
    let inside : c.args.place / CHUNK < length c.self.inside.all.items =
    omega (arith, all, seen, length-map (joined_chunks c.self.inside.all.items) kept_entry, c.requires) in
    let whole = chunk_at chunk_items c.self.inside.all.items (c.args.place / CHUNK) c.index.result.now c.self.invariant.full inside in
    omega (arith, whole, ap length (ap (λ list. list.items) (c.deref.ensures ∙ ap (λ one. one.value) c.index.ensures)))

pub returns : goal.returns
returns g c =
    let found = c.index-2.result.now in
    let below : c.args.place < length (joined_chunks c.self.inside.all.items) =
    omega (arith, ap length c.self.view_is, length-map (joined_chunks c.self.inside.all.items) kept_entry, c.requires) in
    let chunk = ap (λ list. list.items) (c.deref.ensures ∙ ap (λ one. one.value) c.index.ensures) in
    let item = in_chunk chunk_items c.self.inside.all.items c.args.place c.index.result.now found c.self.invariant.full below
    ∙ ap (λ items. get_or items (c.args.place % CHUNK) found) (sym chunk) ∙ sym c.index-2.ensures in
    ap (λ (history : List JournalEntry). get_or history c.args.place (kept_entry found)) (sym c.self.view_is)
    ∙ get_or-map kept_entry (joined_chunks c.self.inside.all.items) c.args.place found (kept_entry found) below ∙ ap kept_entry item
