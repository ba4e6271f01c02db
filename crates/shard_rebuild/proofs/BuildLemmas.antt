-- A build of a shard along what its desk sees.
use Rattle.std.proofs.Common.{◌≡◌, ℕ, ◌<◌, ◌≤◌, Bool, true, false, cond, List, [], ◌∷◌, ◌++◌, length, take, refl, sym, ap, subst, ◌∙◌, arith}
use Rattle.std.proofs.lemmas.List.{append_assoc, length-append, length-map, length-take, map-append, take-append-le}
use Rattle.hamming_model.specs.History.{JournalEntry, Operation, is_accepted, rows_of, shard_rows}
use Rattle.hamming_model.specs.Recoded.{cut_entry, cut_history}
use Rattle.entry_log.specs.Decisions.{decision_of}
use Rattle.part_layout.specs.Laid.{Laid}
use Rattle.part_layout.specs.declared.config.Config.{Config}
use Rattle.shard_version.specs.Contents.{Contents, IsVersion}
use Rattle.version_draft.specs.Unfinished.{Unfinished, begun}
use Rattle.commit_journal.specs.Fronts.{FrontState, position_of}
use Rattle.commit_journal.specs.declared.decided.Decided.{Decided}
use Rattle.versioned_shard.specs.Along.{Follows}
use Rattle.repartitioner.specs.Builds.{followed}
use Rattle.session_desk.specs.Calls.{CommitsAt, Learns}
use Rattle.session_desk.specs.Desks.{DeskState, IsVersionOf, seen_history}
use Rattle.shard_rebuild.specs.ShardBuilds.{IsBuildOf, SeesMore}
use Rattle.shard_rebuild.specs.Swapping.{BuildGoesOn}

-- the rows of a shard's first so many entries, cut to so many bits
abbrev pub rows_up_to : List JournalEntry → ℕ → ℕ → ℕ → ℕ → List (ℕ × List ℕ)
rows_up_to seen shard shards bits at = shard_rows shard shards (rows_of (take at (cut_history bits seen)))

-- ---- where more is seen

module _ (old new : DeskState) (more : SeesMore old new) where
  pub seen_length : length old.seen ≤ length new.seen
  seen_length = omega (arith, ap length more.longer, length-append old.seen more.more)

  first_stays : (position bits : ℕ) → position ≤ length old.seen → take position (cut_history bits new.seen) ≡ take position (cut_history bits old.seen)
  first_stays position bits within =
      ap (λ (seen : List JournalEntry). take position (cut_history bits seen)) more.longer
      ∙ ap (take position) (map-append (cut_entry bits) old.seen more.more)
      ∙ take-append-le position (cut_history bits old.seen) (cut_history bits more.more) (omega (arith, within, length-map old.seen (cut_entry bits)))

  -- a version of the first entries stays one
  pub version_lasts : (shard position : ℕ) (version : Contents) → position ≤ length old.seen → IsVersionOf old shard position version
      → IsVersionOf new shard position version
  version_lasts shard position version within is = record {
    sound = is.sound;
    shard_is = is.shard_is;
    shards_are = is.shards_are ∙ sym (ap (λ (each : Config). each.shards) more.config);
    bits_are = is.bits_are ∙ sym (ap (λ (each : Config). each.bits) more.config);
    at = is.at;
    rows = is.rows
        ∙ ap (λ (entries : List JournalEntry). shard_rows shard old.config.shards (rows_of entries)) (sym (first_stays position old.config.bits within))
        ∙ ap (λ (each : Config). rows_up_to new.seen shard each.shards each.bits position) (sym more.config);
  }

  -- so a build stays one
  pub build_lasts : (shard : ℕ) (build : Unfinished) → IsBuildOf old shard build → IsBuildOf new shard build
  build_lasts shard build is = record {
    version_is = version_lasts shard build.contents.at build.contents is.within is.version_is;
    within = omega (arith, is.within, seen_length);
  }

pub learns_more : (old new : DeskState) → Learns old new.seen → new.config ≡ old.config → SeesMore old new
learns_more old new learns config = record { more = learns.more; longer = learns.longer; config = config }

pub more_both : (old mid new : DeskState) → SeesMore old mid → SeesMore mid new → SeesMore old new
more_both old mid new first second = record {
  more = first.more ++ second.more;
  longer = second.longer
      ∙ ap (λ (seen : List JournalEntry). seen ++ second.more) first.longer
      ∙ append_assoc old.seen first.more second.more;
  config = second.config ∙ first.config;
}

-- a commit appends at most its own entry
pub commits_more : (old new : DeskState) (operation : Operation) (decided : Decided) → CommitsAt old new operation decided → SeesMore old new
commits_more old new operation decided commits = go (is_accepted (decision_of decided.decision)) refl
  where
    entry : JournalEntry
    entry = record { who = old.who; operation = operation }

    config_is : new.config ≡ old.config
    config_is = ap (λ (d : DeskState). d.config) commits.after

    go : (accepted : Bool) → is_accepted (decision_of decided.decision) ≡ accepted → SeesMore old new
    go true e = record {
      more = commits.learns.more ++ entry ∷ [];
      longer = commits.seen
          ∙ ap (λ (is : Bool). cond is (commits.before ++ entry ∷ []) commits.before) e
          ∙ ap (λ (seen : List JournalEntry). seen ++ entry ∷ []) commits.learns.longer
          ∙ append_assoc old.seen commits.learns.more (entry ∷ []);
      config = config_is;
    }
    go false e = record {
      more = commits.learns.more;
      longer = commits.seen ∙ ap (λ (is : Bool). cond is (commits.before ++ entry ∷ []) commits.before) e ∙ commits.learns.longer;
      config = config_is;
    }

-- ---- along what is seen

module _ (desk : DeskState) (shard : ℕ) where
  -- a build follows all that is seen
  pub build_follows : (build : Unfinished) → IsBuildOf desk shard build → Follows desk.seen build.contents
  build_follows build made = record {
    is = ap (λ (n : ℕ). (record build.contents { at = n })) at_is
        ∙ ap (λ (rows : List (ℕ × List ℕ)). (record build.contents {
          at = length (take build.contents.at (cut_history build.contents.layout.bits desk.seen));
          rows = rows;
        })) rows_are;
  }
    where
      version : Contents
      version = build.contents

      at_is : version.at ≡ length (take version.at (cut_history version.layout.bits desk.seen))
      at_is = omega (
        arith,
        made.within,
        length-take version.at (cut_history version.layout.bits desk.seen),
        length-map desk.seen (cut_entry version.layout.bits),
      )

      rows_are : version.rows ≡ rows_up_to desk.seen version.shard version.shards version.layout.bits version.at
      rows_are =
          let is = made.version_is in
          is.rows
          ∙ ap (λ (n : ℕ). rows_up_to desk.seen n desk.config.shards desk.config.bits version.at) (sym is.shard_is)
          ∙ ap (λ (n : ℕ). rows_up_to desk.seen version.shard n desk.config.bits version.at) (sym is.shards_are)
          ∙ ap (λ (n : ℕ). rows_up_to desk.seen version.shard version.shards n version.at) (sym is.bits_are)

  -- a build that followed all that is seen stands at its length
  pub followed_at : (front : FrontState) (build : Unfinished) → front.entries ≡ desk.seen → (followed front build).contents.at ≡ position_of front
  followed_at front build entries = omega (
    arith,
    length-take (position_of front) (cut_history build.contents.layout.bits front.entries),
    length-map front.entries (cut_entry build.contents.layout.bits),
  )

  -- and is a build of the shard
  pub build_followed : (front : FrontState) (build : Unfinished) → front.entries ≡ desk.seen → IsVersion (followed front build).contents
      → IsBuildOf desk shard build → IsBuildOf desk shard (followed front build)
  build_followed front build entries sound made = record {
    version_is = record {
      sound = sound;
      shard_is = is.shard_is;
      shards_are = is.shards_are;
      bits_are = is.bits_are;
      at = refl;
      rows = ap (λ (n : ℕ). rows_up_to front.entries n old.shards old.layout.bits (position_of front)) is.shard_is
          ∙ ap (λ (n : ℕ). rows_up_to front.entries shard n old.layout.bits (position_of front)) is.shards_are
          ∙ ap (λ (n : ℕ). rows_up_to front.entries shard desk.config.shards n (position_of front)) is.bits_are
          ∙ ap (λ (seen : List JournalEntry). rows_up_to seen shard desk.config.shards desk.config.bits (position_of front)) entries
          ∙ ap (rows_up_to desk.seen shard desk.config.shards desk.config.bits) (sym (followed_at front build entries));
    };
    within = omega (arith, followed_at front build entries, ap length entries);
  }
    where
      old : Contents
      old = build.contents

      is : IsVersionOf desk shard old.at old
      is = made.version_is

  -- a build of a version is one of its shard
  pub build_begun : (position : ℕ) (version : Contents) (layout : Laid) (build : Unfinished) → IsVersionOf desk shard position version
      → position ≤ length desk.seen → build ≡ begun version layout → layout.bits ≡ desk.config.bits → IsVersion build.contents → IsBuildOf desk shard build
  build_begun position version layout build is within begins bits sound = record {
    version_is = record {
      sound = sound;
      shard_is = ap (λ (each : Unfinished). each.contents.shard) begins ∙ is.shard_is;
      shards_are = ap (λ (each : Unfinished). each.contents.shards) begins ∙ is.shards_are;
      bits_are = ap (λ (each : Unfinished). each.contents.layout.bits) begins ∙ bits;
      at = refl;
      rows = ap (λ (each : Unfinished). each.contents.rows) begins ∙ is.rows
          ∙ ap (rows_up_to desk.seen shard desk.config.shards desk.config.bits) (sym (ap (λ (each : Unfinished). each.contents.at) begins ∙ is.at));
    };
    within = omega (arith, within, ap (λ (each : Unfinished). each.contents.at) begins, is.at);
  }

  -- its shard is one of the desk's
  pub low_shard : (build : Unfinished) → IsBuildOf desk shard build → shard < desk.config.shards
  low_shard build is = omega (arith, is.version_is.sound.own_shard, is.version_is.shard_is, is.version_is.shards_are)

  -- ---- a build that goes on

  -- as it was
  pub goes_on_same : (before build : Unfinished) → IsBuildOf desk shard before → before.left ≡ 0 → build ≡ before → BuildGoesOn desk shard before build
  goes_on_same before build is placed same = subst (BuildGoesOn desk shard before) (sym same)
      (record { of_shard = is; layout = refl; never_back = omega arith; placed = placed })

  -- at a front
  pub goes_on_followed : (front : FrontState) (before build : Unfinished) → front.entries ≡ desk.seen → IsVersion build.contents → IsBuildOf desk shard before
      → build ≡ followed front before → BuildGoesOn desk shard before build
  goes_on_followed front before build entries sound is same = subst (BuildGoesOn desk shard before) (sym same) (record {
    of_shard = build_followed front before entries (subst (λ (each : Unfinished). IsVersion each.contents) same sound) is;
    layout = refl;
    never_back = omega (arith, followed_at front before entries, is.within, ap length entries);
    placed = refl;
  })

-- while more is seen
pub goes_on_more : (old new : DeskState) (shard : ℕ) (before build : Unfinished) → SeesMore old new → BuildGoesOn old shard before build
    → BuildGoesOn new shard before build
goes_on_more old new shard before build more is = record {
  of_shard = build_lasts old new more shard build is.of_shard;
  layout = is.layout;
  never_back = is.never_back;
  placed = is.placed;
}

-- a version has at most one row for each entry
pub few_rows : (desk : DeskState) (shard position : ℕ) (version : Contents) → IsVersionOf desk shard position version
    → ((shard shards : ℕ) (history : List JournalEntry) → length (shard_rows shard shards (rows_of history)) ≤ length history)
    → length version.rows ≤ position
few_rows desk shard position version is law = omega (
  arith,
  ap length is.rows,
  law shard desk.config.shards (take position (seen_history desk)),
  length-take position (seen_history desk),
)
