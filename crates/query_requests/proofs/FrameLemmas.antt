-- Lemmas on what a request on queries keeps: a source behind each cursor for each shard, and what the desk is.
use Rattle.std.proofs.Common.{◌≡◌, ◌<◌, ℕ, List, [], ◌∷◌, ◌++◌, length, map, sym, ap, ◌∙◌, subst, inl, inr}
use Rattle.std.specs.List.{AllByRecursion}
use Rattle.std.specs.declared.option.Option.{Option}
use Rattle.std.specs.Prelude.{Result}
use Rattle.line_io.specs.declared.source.Failed.{Failed}
use Rattle.hamming_model.specs.Scan.{Ask}
use Rattle.part_layout.specs.declared.config.Config.{Config}
use Rattle.query_protocol.specs.Replies.{LineReply}
use Rattle.open_queries.specs.Queries.{Changes, HaveShard, opened_query}
use Rattle.open_queries.specs.Answers.{GivesAs, TellsOfQuery, CancelsAs}
use Rattle.open_session.specs.Cursors.{Cursor, asks, stands}
use Rattle.open_session.specs.Moments.{Moment}
use Rattle.open_session.specs.Meaning.{HaveShards}
use Rattle.query_requests.specs.Opened.{OpensAs}
use Rattle.open_session.specs.KeptBuild.{KeepsBuilds}
use Rattle.open_session.proofs.DeskLemmas.{IsHere, builds_learned, builds_seen, here_same}
use Rattle.open_session.proofs.QueryLemmas.{same_number_of}

-- ---- the desk

module _ {W : ℕ} (config : Config) (old new : Moment W) (tag : List ℕ) (asked : Ask)
    (room : ℕ) (this : LineReply) where
  pub here_opens : OpensAs old new tag asked room this → old.desk.config ≡ config
      → IsHere config new.desk
  here_opens (inl was) = here_same config old.desk new.desk
      (ap (λ (m : Moment W). m.desk.config) was.same)
  here_opens (inr (inl was)) = here_same config old.desk new.desk
      (ap (λ (m : Moment W). m.desk.config) was.same)
  here_opens (inr (inr (inl had))) = here_same config old.desk new.desk had.opens.keeps.config
  here_opens (inr (inr (inr was))) = here_same config old.desk new.desk was.opened.gathered.opens.keeps.config

pub builds_open : {W : ℕ} (old new : Moment W) (tag : List ℕ) (asked : Ask) (room : ℕ) (this : LineReply)
    → OpensAs old new tag asked room this → KeepsBuilds old.desk new.desk
builds_open {W} old new tag asked room this (inl was) =
    builds_seen old.desk new.desk (ap (λ (m : Moment W). m.desk.seen) was.same) (ap (λ (m : Moment W). m.desk.config) was.same)
builds_open {W} old new tag asked room this (inr (inl was)) =
    builds_seen old.desk new.desk (ap (λ (m : Moment W). m.desk.seen) was.same) (ap (λ (m : Moment W). m.desk.config) was.same)
builds_open old new tag asked room this (inr (inr (inl had))) =
    builds_learned old.desk new.desk had.opens.learns had.opens.keeps.config
builds_open old new tag asked room this (inr (inr (inr was))) =
    builds_learned old.desk new.desk was.opened.gathered.opens.learns was.opened.gathered.opens.keeps.config

-- ---- the cursors

all_parts : {W : ℕ} (P : Cursor W → Type 0) (front : List (Cursor W)) (x : Cursor W) (back : List (Cursor W))
    → AllByRecursion P (front ++ x ∷ back)
    → (P x → (y : Cursor W) → P y → AllByRecursion P (front ++ y ∷ back)) × (P x × AllByRecursion P (front ++ back))
all_parts P [] x back all = (λ old y new. (new, all.1), (all.0, all.1))
all_parts P (first ∷ front) x back all =
    let rest = all_parts P front x back all.1 in
    (λ old y new. (all.0, rest.0 old y new), (rest.1.0, (all.0, rest.1.1)))

all_last : {W : ℕ} (P : Cursor W → Type 0) (front : List (Cursor W)) (x : Cursor W)
    → AllByRecursion P front → P x → AllByRecursion P (front ++ x ∷ [])
all_last P [] x all last = (last, tt)
all_last P (first ∷ front) x all last = (all.0, all_last P front x all.1 last)

-- each cursor has a source for a shard
pub have_shard : {W : ℕ} (shards : ℕ) (cursors : List (Cursor W)) (shard : ℕ) → shard < shards
    → HaveShards shards cursors → HaveShard cursors shard
have_shard shards [] shard lt have = tt
have_shard shards (cursor ∷ cursors) shard lt have =
    (subst (λ n. shard < n) (sym have.0) lt, have_shard shards cursors shard lt have.1)

module _ {W : ℕ} (shards : ℕ) (old new : List (Cursor W)) (have : HaveShards shards old) where
  pub changed_shards : (tag : List ℕ) (before after : Cursor W) → Changes old new tag before after
      → map (asks {W = W}) after.gather.sources ≡ map (asks {W = W}) before.gather.sources → HaveShards shards new
  changed_shards tag before after changes same =
      let P = λ (cursor : Cursor W). length cursor.gather.sources ≡ shards in
      let parts = all_parts P changes.front before changes.back (subst (AllByRecursion P) changes.old_is have) in
      subst (AllByRecursion P) (sym changes.new_is)
      (parts.0 parts.1.0 after
      (same_number_of (asks {W = W}) before.gather.sources after.gather.sources same ∙ parts.1.0))

  pub given_shards : {A : Type 0} (tag : List ℕ) (count : ℕ) (sink sink' : Option (List ℕ)) (from to : List ℕ)
      (result : Result A Failed)
      → GivesAs (asks {W = W}) (stands {W = W}) old tag count sink sink' from to result new → HaveShards shards new
  given_shards tag count sink sink' from to result (inl unknown) = subst (HaveShards shards) (sym unknown.1) have
  given_shards tag count sink sink' from to result (inr given) =
      changed_shards tag given.0 given.1 given.2 given.3.asked

  pub told_shards : (tag : List ℕ) (Tells : Cursor W → LineReply → Type 0) (this : LineReply)
      → TellsOfQuery (asks {W = W}) (stands {W = W}) old tag Tells this new → HaveShards shards new
  told_shards tag Tells this (inl unknown) = subst (HaveShards shards) (sym unknown.1) have
  told_shards tag Tells this (inr told) = changed_shards tag told.0 told.1 told.2 told.3.asked

  pub cancelled_shards : (tag : List ℕ) (this : LineReply) → CancelsAs old tag this new → HaveShards shards new
  cancelled_shards tag this (inl unknown) = subst (HaveShards shards) (sym unknown.1) have
  cancelled_shards tag this (inr told) =
      let P = λ (cursor : Cursor W). length cursor.gather.sources ≡ shards in
      let removes = told.1 in
      subst (AllByRecursion P) (sym removes.new_is)
      (all_parts P removes.front told.0 removes.back (subst (AllByRecursion P) removes.old_is have)).1.1

pub opened_shards : {W : ℕ} (config : Config) (old new : Moment W) (tag : List ℕ) (asked : Ask)
    (room : ℕ) (this : LineReply) → old.desk.config ≡ config → HaveShards config.shards old.cursors
    → OpensAs old new tag asked room this → HaveShards config.shards new.cursors
opened_shards {W} config old new tag asked room this is have (inl was) =
    subst (λ (m : Moment W). HaveShards config.shards m.cursors) (sym was.same) have
opened_shards {W} config old new tag asked room this is have (inr (inl was)) =
    subst (λ (m : Moment W). HaveShards config.shards m.cursors) (sym was.same) have
opened_shards config old new tag asked room this is have (inr (inr (inl had))) =
    subst (HaveShards config.shards) (sym had.cursors) have
opened_shards {W} config old new tag asked room this is have (inr (inr (inr was))) =
    subst (HaveShards config.shards) (sym was.cursors)
    (all_last (λ (cursor : Cursor W). length cursor.gather.sources ≡ config.shards) old.cursors
    (opened_query tag was.gather) have (was.opened.gathered.opens.number ∙ ap (λ (c : Config). c.shards) is))
