-- The rule of a shard, along what shards and histories do.
use Rattle.std.proofs.Common.{◌≡◌, ◌⊎◌, inl, inr, ⊎_elim, ◌==◌, ◌||◌, ℕ, zero, suc, ◌<◌, ◌≤◌, nat_lt, Bool, true, false, cond, List, [], ◌∷◌, ◌++◌, length, map, filter, get_or, Option, refl, sym, ap, subst, ◌∙◌, arith, eq-eqb, eqb-true, length-append}
use Rattle.std.specs.Prelude.{nat_le}
use Rattle.std.specs.List.{AllByRecursion, IsAmong}
use Rattle.std.proofs.lemmas.Bool.{le-leb, ltb-true, ltb-false}
use Rattle.std.proofs.lemmas.List.Folds.{list_any-append}
use Rattle.hamming_model.specs.History.{JournalEntry}
use Rattle.part_layout.specs.Laid.{IsLaid, Laid}
use Rattle.shard_version.specs.Contents.{Contents, empty_of}
use Rattle.commit_journal.specs.Fronts.{FrontState, StandsAt, has_position, position_of}
use Rattle.commit_journal.specs.Journals.{IsKnown}
use Rattle.versioned_shard.specs.Along.{Follows, version_at}
use Rattle.versioned_shard.specs.Rule.{IsKeptVersion, KeepsRule}
use Rattle.versioned_shard.specs.Shards.{HasVersion, IsOneOf, MayStandIn, ShardState, advanced, further, has_version, made, shard_with, staying, with_layout}
use Rattle.versioned_shard.proofs.AlongLemmas.{follows_longer, follows_relaid, position_is, version_begin, version_follows}

-- ---- kept versions
module _ (P Q : Contents → Type 0) where
  all_weaker : (versions : List Contents) → ((version : Contents) → P version → Q version) → AllByRecursion P versions → AllByRecursion Q versions
  all_weaker [] weaker all = tt
  all_weaker (version ∷ versions) weaker all = (weaker version all.0, all_weaker versions weaker all.1)

all_append : (P : Contents → Type 0) (xs ys : List Contents) → AllByRecursion P xs → AllByRecursion P ys → AllByRecursion P (xs ++ ys)
all_append P [] ys front back = back
all_append P (x ∷ xs) ys front back = (front.0, all_append P xs ys front.1 back)

all_stay : (P : Contents → Type 0) (older : List ℕ) (versions : List Contents) → AllByRecursion P versions → AllByRecursion P (staying older versions)
all_stay P older [] all = tt
all_stay P older (version ∷ versions) all = go (has_position older version.at) (all_stay P older versions all.1)
  where
    go : (b : Bool) → AllByRecursion P (staying older versions) → AllByRecursion P (cond b (version ∷ staying older versions) (staying older versions))
    go true rest = (all.0, rest)
    go false rest = rest

all_made : (P : Contents → Type 0) (history : List JournalEntry) (from : Contents) (older : List ℕ)
    → AllByRecursion (λ position. P (version_at history from position)) older → AllByRecursion P (made history from older)
all_made P history from [] all = tt
all_made P history from (position ∷ older) all = go (nat_le from.at position) (all_made P history from older all.1)
  where
    go : (b : Bool) → AllByRecursion P (made history from older)
        → AllByRecursion P
        (map (version_at history from)
        (cond b (position ∷ filter (λ each. nat_le from.at each) older) (filter (λ each. nat_le from.at each) older)))
    go true rest = (all.0, rest)
    go false rest = rest

all_numbers : (P Q : ℕ → Type 0) (xs : List ℕ) → ((x : ℕ) → P x → Q x) → AllByRecursion P xs → AllByRecursion Q xs
all_numbers P Q [] weaker all = tt
all_numbers P Q (x ∷ xs) weaker all = (weaker x all.0, all_numbers P Q xs weaker all.1)

or_first : (a b : Bool) → a ≡ true → (a || b) ≡ true
or_first true b h = refl
or_first false b h = cc

or_second : (a b : Bool) → b ≡ true → (a || b) ≡ true
or_second true b h = refl
or_second false b h = h

has_stays : (older : List ℕ) (versions : List Contents) (position : ℕ) → has_position older position ≡ true
    → has_version versions position ≡ true → has_version (staying older versions) position ≡ true
has_stays older [] position listed has = cc
has_stays older (version ∷ versions) position listed has = go (version.at == position) refl has (has_stays older versions position listed)
  where
    go : (b : Bool) → (version.at == position) ≡ b → (b || has_version versions position) ≡ true
        → (has_version versions position ≡ true → has_version (staying older versions) position ≡ true)
        → has_version (cond (has_position older version.at) (version ∷ staying older versions) (staying older versions)) position ≡ true
    go true e h rest =
        let stands : has_position older version.at ≡ true = ap (has_position older) (eqb-true version.at position e) ∙ listed in
        ap (λ (b : Bool). has_version (cond b (version ∷ staying older versions) (staying older versions)) position) stands
        ∙ or_first (version.at == position) (has_version (staying older versions) position) e
    go false e h rest = keep (has_position older version.at) (rest h)
      where
        keep : (b : Bool) → has_version (staying older versions) position ≡ true
            → has_version (cond b (version ∷ staying older versions) (staying older versions)) position ≡ true
        keep true later = or_second (version.at == position) (has_version (staying older versions) position) later
        keep false later = later

has_made : (history : List JournalEntry) (from : Contents) (older : List ℕ) (position : ℕ) → position ≤ length history
    → from.at ≤ position → has_position older position ≡ true
    → has_version (made history from older) position ≡ true
has_made history from [] position within le listed = cc
has_made history from (first ∷ older) position within le listed = go (first == position) refl listed (has_made history from older position within le)
  where
    go : (b : Bool) → (first == position) ≡ b → (b || has_position older position) ≡ true
        → (has_position older position ≡ true → has_version (made history from older) position ≡ true)
        → has_version
        (map (version_at history from)
        (cond (nat_le from.at first) (first ∷ filter (λ each. nat_le from.at each) older)
        (filter (λ each. nat_le from.at each) older))) position ≡ true
    go true e h rest =
        let same : first ≡ position = eqb-true first position e in
        let test : nat_le from.at first ≡ true = le-leb from.at first (omega arith) in
        let at : (version_at history from first).at ≡ position = position_is from history first (omega arith) ∙ same in
        ap
        (λ (b : Bool).
        has_version
        (map (version_at history from)
        (cond b (first ∷ filter (λ each. nat_le from.at each) older) (filter (λ each. nat_le from.at each) older)))
        position) test
        ∙ or_first ((version_at history from first).at == position) (has_version (made history from older) position)
        (eq-eqb (version_at history from first).at position at)
    go false e h rest = keep (nat_le from.at first) (rest h)
      where
        keep : (b : Bool) → has_version (made history from older) position ≡ true
            → has_version
            (map (version_at history from)
            (cond b (first ∷ filter (λ each. nat_le from.at each) older) (filter (λ each. nat_le from.at each) older))) position
            ≡ true
        keep true later = or_second ((version_at history from first).at == position) (has_version (made history from older) position) later
        keep false later = later

has_joined : (xs ys : List Contents) (position : ℕ) → (has_version xs position || has_version ys position) ≡ true → has_version (xs ++ ys) position ≡ true
has_joined xs ys position h = list_any-append (λ version. version.at == position) xs ys ∙ h

-- ---- a shard that comes to a front
module _ (live : ℕ → Option ℕ) (history : List JournalEntry) (shard : ShardState) (front : FrontState)
    (rule : KeepsRule live history shard) (known : IsKnown live history front) where
  abbrev from : Contents
  from = shard.current

  abbrev reached : Contents
  reached = version_at front.entries from (position_of front)

  begins : (version : Contents) (p : ℕ) → p ≤ position_of front → version_at front.entries version p ≡ version_at history version p
  begins version p le = ap (λ (entries : List JournalEntry). version_at entries version p) known.begins ∙ version_begin version history p (position_of front) le

  -- it follows the front's entries as far as it is
  pub follows_front : from.at < position_of front → Follows front.entries from
  follows_front behind = record { is = rule.current.is ∙ sym (begins from from.at (omega arith)) }

  reached_at : reached.at ≡ position_of front
  reached_at = position_is from front.entries (position_of front) (omega arith)

  -- what was kept is kept below the front
  still_kept : from.at < position_of front → (version : Contents) → IsKeptVersion history from version → IsKeptVersion history reached version
  still_kept behind version kept = record {
    follows = kept.follows;
    below = omega (arith, kept.below, behind, reached_at);
    laid = kept.laid;
    shard_is = kept.shard_is;
    shards_is = kept.shards_is;
    bits_are = kept.bits_are;
  }

  -- and so is what is made below it
  made_kept : (position : ℕ) → position < position_of front → IsKeptVersion history reached (version_at front.entries from position)
  made_kept position lt = record {
    follows = subst (Follows history) (sym (begins from position (omega (arith, lt))))
        (version_follows from history position (omega (arith, lt, known.within)));
    below = omega (arith, lt, reached_at, position_is from front.entries position (omega (arith, lt)));
    laid = rule.laid;
    shard_is = refl;
    shards_is = refl;
    bits_are = refl;
  }

  found : from.at < position_of front → (position : ℕ) → StandsAt live position
      → (reached.at ≤ position) ⊎ (has_version (staying front.older shard.kept ++ made front.entries from front.older) position ≡ true)
  found behind position stands = go (nat_lt position (position_of front)) refl
    where
      stay : List Contents
      stay = staying front.older shard.kept

      new : List Contents
      new = made front.entries from front.older

      go : (low : Bool) → nat_lt position (position_of front) ≡ low → (reached.at ≤ position) ⊎ (has_version (stay ++ new) position ≡ true)
      go false e = inl (omega (arith, reached_at, ltb-false position (position_of front) e))
      go true e =
          let lt = ltb-true position (position_of front) e in
          let listed = known.older position stands lt in
          inr (has_joined stay new position (⊎_elim
          (λ (le : from.at ≤ position). or_second (has_version stay position) (has_version new position)
          (has_made front.entries from front.older position (omega (arith, lt)) le listed))
          (λ (has : has_version shard.kept position ≡ true). or_first (has_version stay position) (has_version new position)
          (has_stays front.older shard.kept position listed has))
          (rule.fronts position stands)))

  goes_further : from.at < position_of front → AllByRecursion (λ position. position < position_of front) front.older
      → KeepsRule live history (further front shard)
  goes_further behind below = record {
    within = omega (arith, reached_at, known.within);
    current = subst (Follows history) (sym (begins from (position_of front) (omega arith))) (version_follows from history (position_of front) known.within);
    laid = rule.laid;
    kept =
        all_append (IsKeptVersion history reached) (staying front.older shard.kept) (made front.entries from front.older)
        (all_stay (IsKeptVersion history reached) front.older shard.kept
        (all_weaker (IsKeptVersion history from) (IsKeptVersion history reached) shard.kept (still_kept behind) rule.kept))
        (all_made (IsKeptVersion history reached) front.entries from front.older
        (all_numbers (λ position. position < position_of front)
        (λ position. IsKeptVersion history reached (version_at front.entries from position)) front.older made_kept below));
    fronts = found behind;
  }

  -- the rule holds where it has come
  pub advances : AllByRecursion (λ position. position < position_of front) front.older → KeepsRule live history (advanced front shard)
  advances below = go (nat_lt from.at (position_of front)) refl
    where
      go : (behind : Bool) → nat_lt from.at (position_of front) ≡ behind → KeepsRule live history (cond behind (further front shard) shard)
      go true e = goes_further (ltb-true from.at (position_of front) e) below
      go false e = rule

-- a live front finds its version
pub has_there : (live : ℕ → Option ℕ) (history : List JournalEntry) (shard : ShardState) (front : FrontState)
    → KeepsRule live history shard → StandsAt live (position_of front)
    → HasVersion (advanced front shard) (position_of front)
has_there live history shard front rule stands = go (nat_lt shard.current.at (position_of front)) refl
  where
    go : (behind : Bool) → nat_lt shard.current.at (position_of front) ≡ behind → HasVersion (cond behind (further front shard) shard) (position_of front)
    go true e = inl (position_is shard.current front.entries (position_of front) (omega arith))
    go false e = ⊎_elim (λ (le : shard.current.at ≤ position_of front). inl (omega (arith, le, ltb-false shard.current.at (position_of front) e)))
        (λ (has : has_version shard.kept (position_of front) ≡ true). inr has) (rule.fronts (position_of front) stands)

-- what is among the kept ones is kept
kept_among : (P : Contents → Type 0) (versions : List Contents) (version : Contents) → AllByRecursion P versions → IsAmong versions version → P version
kept_among P [] version all among = absurd (omega (arith, among.1.0))
kept_among P (first ∷ rest) version all among = go (λ i below is. kept_among P rest version all.1 (i, (below, is))) among.0 among.1.0 among.1.1
  where
    go : ((i : ℕ) → i < length rest → version ≡ get_or rest i version → P version) → (i : ℕ) → i < length (first ∷ rest)
        → version ≡ get_or (first ∷ rest) i version → P version
    go later zero below is = subst P (sym is) all.0
    go later (suc i) below is = later i (omega (arith, below)) is

-- with the rows of its own prefix
pub given_is : (live : ℕ → Option ℕ) (history : List JournalEntry) (shard : ShardState) (position : ℕ) (version : Contents) → KeepsRule live history shard
    → IsOneOf shard position version → version ≡ version_at history version position
given_is live history shard position version rule one =
    follows.is ∙ ap (version_at history version) one.at
  where
    follows : Follows history version
    follows = ⊎_elim (λ (current : version ≡ shard.current). subst (Follows history) (sym current) rule.current)
        (λ (among : IsAmong shard.kept version). (kept_among (IsKeptVersion history shard.current) shard.kept version rule.kept among).follows) one.among

-- ---- a rebuild
pub rule_swapped : (live : ℕ → Option ℕ) (history : List JournalEntry) (shard : ShardState) (version : Contents)
    → KeepsRule live history shard → IsLaid version.layout
    → MayStandIn shard version → version.at ≡ shard.current.at → KeepsRule live history (with_layout shard version.layout)
rule_swapped live history shard version rule laid may same = record {
  within = rule.within;
  current = follows_relaid history shard.current version.layout may.bits_are rule.current;
  laid = laid;
  kept = all_weaker (IsKeptVersion history shard.current) (IsKeptVersion history (record shard.current { layout = version.layout })) shard.kept
      (λ other kept. record {
        follows = kept.follows;
        below = kept.below;
        laid = kept.laid;
        shard_is = kept.shard_is;
        shards_is = kept.shards_is;
        bits_are = kept.bits_are ∙ sym may.bits_are;
      }) rule.kept;
  fronts = rule.fronts;
}

-- ---- the beginning
pub rule_begins : (live : ℕ → Option ℕ) (history : List JournalEntry) (shard shards : ℕ) (layout : Laid) → IsLaid layout
    → KeepsRule live history (shard_with (empty_of shard shards layout) [])
rule_begins live history shard shards layout laid = record {
  within = omega arith;
  current = record { is = refl };
  laid = laid;
  kept = tt;
  fronts = λ position stands. inl (omega arith);
}

-- ---- histories and fronts
pub rule_longer : (live : ℕ → Option ℕ) (history more : List JournalEntry) (shard : ShardState) → KeepsRule live history shard
    → KeepsRule live (history ++ more) shard
rule_longer live history more shard rule = record {
  within = omega (arith, length-append history more, rule.within);
  current = follows_longer history more shard.current rule.within rule.current;
  laid = rule.laid;
  kept = all_weaker (IsKeptVersion history shard.current) (IsKeptVersion (history ++ more) shard.current) shard.kept
      (λ version kept. record {
        follows = follows_longer history more version (omega (arith, kept.below, rule.within)) kept.follows;
        below = kept.below;
        laid = kept.laid;
        shard_is = kept.shard_is;
        shards_is = kept.shards_is;
        bits_are = kept.bits_are;
      }) rule.kept;
  fronts = rule.fronts;
}

pub rule_fronts : (old new : ℕ → Option ℕ) (history : List JournalEntry) (shard : ShardState)
    → ((position : ℕ) → StandsAt new position → StandsAt old position ⊎ (length history ≤ position)) → KeepsRule old history shard → KeepsRule new history shard
rule_fronts old new history shard came rule = record {
  within = rule.within;
  current = rule.current;
  laid = rule.laid;
  kept = rule.kept;
  fronts = λ position stands. ⊎_elim (rule.fronts position)
      (λ (high : length history ≤ position). inl (omega (arith, high, rule.within))) (came position stands);
}

pub rule_decided : (live : ℕ → Option ℕ) (history : List JournalEntry) (entry : JournalEntry) (shard : ShardState) (accepted : Bool)
    → KeepsRule live history shard
    → KeepsRule live (cond accepted (history ++ entry ∷ []) history) shard
rule_decided live history entry shard true rule = rule_longer live history (entry ∷ []) shard rule
rule_decided live history entry shard false rule = rule
