-- Lemmas on an opening over a desk.
use Rattle.std.proofs.Common.{◌≡◌, ℕ, zero, suc, ◌+◌, ◌-◌, ◌*◌, ◌≤◌, ◌<◌, ◌&&◌, min, nat_le, Bool, true}
use Rattle.std.proofs.Common.{List, [], ◌∷◌, sum, take, length, map, replicate, slice_index_or, Option, Some, None}
use Rattle.std.proofs.Common.{refl, sym, ap, ◌∙◌, subst, arith, inl, inr, Result, Ok, Err, OnErr}
use Rattle.std.specs.List.{AllByRecursion, list_all, sum_by}
use Rattle.std.proofs.lemmas.Bool.{le-leb}
use Rattle.std.proofs.lemmas.List.{length-map, get_or-map}
use Rattle.std.proofs.lemmas.List.Sums.{sum-map}
use Rattle.hamming_model.specs.History.{rows_of, shard_rows}
use Rattle.hamming_model.specs.Scan.{Ask, Range, Near}
use Rattle.hit_source.specs.Sources.{Asked, Standing, IsFresh}
use Rattle.part_layout.specs.Laid.{Laid}
use Rattle.part_layout.specs.Text.{layout_text}
use Rattle.part_layout.specs.declared.config.Config.{Config}
use Rattle.shard_version.specs.Contents.{Contents}
use Rattle.session_desk.specs.Desks.{DeskState, IsDesk, Pin, ShardPlace, no_place, pin_position}
use Rattle.session_desk.specs.Desks.{seen_history}
use Rattle.session_model.specs.Upkeep.{entries_beyond}
use Rattle.scatter_gather.specs.Gathering.{Gathered, gathered}
use Rattle.scatter_gather.specs.Kept.{AreOneLength}
use Rattle.query_opening.specs.Pinning.{ComesOn, PinsAll, behind}
use Rattle.query_opening.specs.Opening.{AreSourcesOn, AsksWanted, IsSourceOn, is_nearest}
use Rattle.query_opening.specs.declared.wanted.Wanted.{Wanted}
use Rattle.query_opening.specs.declared.wanted.Wanted.TheVariants.{Within, Nearest}
use Rattle.hamming_model.specs.Shards.{AreShardNumbers}
use Rattle.hamming_model.proofs.ShardLemmas.{numbers_add_up}
use Rattle.open_queries.specs.Kept.{AreOfOneKind}
use Rattle.open_session.specs.Questions.{ask_of, asked_code, limit_in, wanted_in}
use Rattle.open_session.specs.declared.question.Question.{Question}
use Rattle.open_session.specs.declared.question.Question.TheVariants as question
use Rattle.open_session.specs.KeptDesk.{layouts_of, pins_of}
use Rattle.open_session.specs.Pinned.{layouts_in}
use Rattle.hamming_model.specs.Layouts.{IsLayout}
use Rattle.session_model.specs.Ledger.{layout_at}
use Rattle.session_model.specs.Step.{AreLayouts}
use Rattle.session_model.specs.Told.{ShardLayouts}
use Rattle.query_requests.specs.Opening.{OpensAll, OpensGathered, OpensNone, OpensShard}
use Rattle.open_session.specs.Cursors.{ShardSource, asks, stands}
use Rattle.open_session.proofs.BoundLemmas.{first_of_some}
use Rattle.open_session.proofs.DeskLemmas.{fewer_beyond, keeps, pin_within, shards_same}

-- what holds anyway holds on an error
pub on_err : {A E : Type 0} (result : Result A E) (P : Type 0) → P → OnErr result P
on_err (Ok value) P h = tt
on_err (Err fault) P h = h

-- ---- lists by place

-- two lists of which the same is seen at each place
pub same_seen : {S T B : Type 0} (f : S → B) (g : T → B) (xs : List S) (ys : List T) (d : S) (e : T)
    → length xs ≡ length ys
    → ((i : ℕ) → i < length ys → f (slice_index_or xs i d) ≡ g (slice_index_or ys i e)) → map f xs ≡ map g ys
same_seen f g [] [] d e same each = refl
same_seen f g [] (y ∷ ys) d e same each = absurd (omega (arith, same))
same_seen f g (x ∷ xs) [] d e same each = absurd (omega (arith, same))
same_seen f g (x ∷ xs) (y ∷ ys) d e same each =
    ap (λ h. h ∷ map f xs) (each zero (omega arith))
    ∙ ap (λ l. g y ∷ l) (same_seen f g xs ys d e (omega (arith, same)) (λ i lt. each (suc i) (omega (arith, lt))))

-- a list with one thing at each place
one_list : {S B : Type 0} (f : S → B) (xs : List S) (d : S) (b : B)
    → ((i : ℕ) → i < length xs → f (slice_index_or xs i d) ≡ b) → map f xs ≡ replicate (length xs) b
one_list f [] d b each = refl
one_list f (x ∷ xs) d b each =
    ap (λ h. h ∷ map f xs) (each zero (omega arith))
    ∙ ap (λ l. b ∷ l) (one_list f xs d b (λ i lt. each (suc i) (omega (arith, lt))))

-- what is true at each place
all_places : {S B : Type 0} (P : B → Type 0) (f : S → B) (xs : List S) (d : S)
    → ((i : ℕ) → i < length xs → P (f (slice_index_or xs i d))) → AllByRecursion P (map f xs)
all_places P f [] d each = tt
all_places P f (x ∷ xs) d each =
    (each zero (omega arith), all_places P f xs d (λ i lt. each (suc i) (omega (arith, lt))))

-- ---- how far pins are behind

behind_first : (pin : Option Pin) (pins : List (Option Pin)) (position number : ℕ)
    → behind (pin ∷ pins) position (suc number) ≡ (position - pin_position pin) + behind pins position number
behind_first pin pins position zero = omega arith
behind_first pin pins position (suc number) =
    omega (arith, behind_first pin pins position number)

behind_is : (pins : List (Option Pin)) (position : ℕ)
    → behind pins position (length pins) ≡ entries_beyond (map pin_position pins) position
behind_is [] position = refl
behind_is (pin ∷ pins) position =
    omega (arith, behind_first pin pins position (length pins), behind_is pins position)

beyond_most : (pins : List ℕ) (position : ℕ) → entries_beyond pins position ≤ length pins * position
beyond_most [] position = omega arith
beyond_most (pin ∷ pins) position = omega (arith, beyond_most pins position)

-- ---- a desk that comes on

-- the code of a question is the one that it was made with
code_of_ask : (asked : Question) (code : List ℕ) → asked_code (ask_of asked code) ≡ code
code_of_ask (question.Range tau) code = refl
code_of_ask (question.Near number) code = refl

module _ (words : ℕ) (old new : DeskState) (is_old : IsDesk words old) (is_new : IsDesk words new)
    (comes : ComesOn old new) where
  shards : new.config.shards ≡ old.config.shards
  shards = shards_same words old new is_old is_new comes

  pins_number : length (pins_of old) ≡ old.config.shards
  pins_number = length-map old.pins pin_position ∙ is_old.pins

  behind_here : (position : ℕ) → behind old.pins position old.config.shards ≡ entries_beyond (pins_of old) position
  behind_here position = ap (behind old.pins position) (sym is_old.pins) ∙ behind_is old.pins position

  opens_none : (from to : ℕ) → to ≤ from + behind old.pins (length new.seen) old.config.shards
      → OpensNone old new from to
  opens_none from to steps = record {
    learns = comes.learns;
    keeps = keeps words old new is_old is_new comes;
    pins = fewer_beyond words old new is_old is_new comes;
    steps = omega (
      arith,
      steps,
      behind_here (length new.seen),
      subst (λ n. entries_beyond (pins_of old) (length new.seen) ≤ n * length new.seen) pins_number
          (beyond_most (pins_of old) (length new.seen)),
    );
  }

  module _ (position : ℕ) (versions : List Contents) (pins : PinsAll old new position versions) where
    -- the first version, since there is one
    some : Contents
    some = first_of_some versions (omega (arith, pins.number, is_old.config.some_shards))

    bits_of : (shard : ℕ) → shard < old.config.shards
        → (slice_index_or versions shard some).layout.bits ≡ old.config.bits
    bits_of shard lt = (pins.each shard some lt).version_is.bits_are ∙ ap (λ (c : Config). c.bits) comes.config

    -- the layouts that were pinned are layouts
    layouts_are : AreLayouts new.config (layouts_in versions)
    layouts_are = record {
      number = length-map versions (λ (version : Contents). version.layout.parts) ∙ pins.number ∙ sym shards;
      each = all_places (IsLayout new.config.bits) (λ (version : Contents). version.layout.parts) versions some
          (λ i lt.
          let is = (pins.each i some (omega (arith, lt, pins.number))).version_is in
          subst (λ bits. IsLayout bits (slice_index_or versions i some).layout.parts) is.bits_are is.sound.laid.layout);
    }

    -- those in which the shards of a desk stand that is alone
    layouts_pinned : old.alone ≡ true → layouts_in versions ≡ layouts_of old
    layouts_pinned alone =
        same_seen (λ (version : Contents). version.layout.parts) (λ (place : ShardPlace). place.1.parts) versions old.places
        some no_place (pins.number ∙ sym (is_old.places alone))
        (λ i lt. ap (λ (l : Laid). l.parts) ((pins.each i some (omega (arith, lt, is_old.places alone))).layout alone))

    module _ {S : Type 0} (asks : S → Asked) (stands : S → Standing) (sources : List S) (asked : Ask) (stored : List ℕ)
        (code : asked_code asked ≡ take old.config.bits stored) (room : ℕ) where
      shard_opened : AreSourcesOn asks stands versions (wanted_in asked) stored room sources (length versions)
          → (shard : ℕ) (d : S) → shard < old.config.shards
          → OpensShard new position shard (layout_at (layouts_in versions) shard) asked room
          (asks (slice_index_or sources shard d)) (stands (slice_index_or sources shard d))
      shard_opened on shard d lt =
          let version = slice_index_or versions shard some in
          let inside : shard < length versions = omega (arith, lt, pins.number) in
          let layout = sym (get_or-map (λ (v : Contents). v.layout.parts) versions shard some [] inside) in
          record {
            version = version;
            version_is = (pins.each shard some lt).version_is;
            layout_is = layout;
            pin = (pins.each shard some lt).pin ∙ ap (λ (l : List (List ℕ)). Some (position, layout_text l)) layout;
            source_is = subst (λ c. IsSourceOn (wanted_in asked) version c room (asks (slice_index_or sources shard d))
                (stands (slice_index_or sources shard d))) (ap (λ n. take n stored) (bits_of shard lt) ∙ sym code)
                (on.each shard some d inside);
          }

      opens_all : (rows from to : ℕ) → AreSourcesOn asks stands versions (wanted_in asked) stored room sources (length versions)
          → rows ≡ length (rows_of (take position (seen_history new)))
          → to ≤ from + behind old.pins position old.config.shards
          → OpensAll asks stands old new sources (layouts_in versions) position rows asked room from to
      opens_all rows from to on rows_are steps = record {
        after = pins.after;
        within = pins.within;
        rows_are = rows_are;
        learns = comes.learns;
        keeps = keeps words old new is_old is_new comes;
        pins = one_list pin_position new.pins None position (λ i lt.
            ap pin_position (pins.each i some (omega (arith, lt, is_new.pins, shards))).pin)
            ∙ ap (λ n. replicate n position) (is_new.pins ∙ shards);
        steps = omega (arith, steps, behind_here position);
        pins_number = pins_number;
        behind = all_places (λ pin. pin ≤ position) pin_position old.pins None (λ i lt.
            omega (arith, pin_within words old new is_old is_new comes i lt, pins.after));
        are_layouts = layouts_are;
        alone = layouts_pinned;
        number = on.number_is ∙ pins.number;
        each = shard_opened on;
      }

    -- the same of a question, by what it wants
    pub opens_asked : {S : Type 0} (asks : S → Asked) (stands : S → Standing) (sources : List S)
        (rows : ℕ) (what : Question) (stored : List ℕ) (wanted : Wanted)
        → wanted ≡ wanted_in (ask_of what (take old.config.bits stored))
        → (room from to : ℕ) → AreSourcesOn asks stands versions wanted stored room sources (length versions)
        → rows ≡ length (rows_of (take position (seen_history new)))
        → to ≤ from + behind old.pins position old.config.shards
        → OpensAll asks stands old new sources (layouts_in versions) position rows
        (ask_of what (take old.config.bits stored)) room from to
    opens_asked asks stands sources rows what stored wanted is room from to on =
        let code = take old.config.bits stored in
        opens_all asks stands sources (ask_of what code) stored (code_of_ask what code) room rows from to
        (subst (λ w. AreSourcesOn asks stands versions w stored room sources (length versions)) is on)

-- what an opening leaves that found no memory
pub none_opened : {words : ℕ} {old new : DeskState} {from to : ℕ} → IsDesk words old → IsDesk words new
    → ComesOn old new → to ≤ from + behind old.pins (length new.seen) old.config.shards
    → OpensNone old new from to
none_opened {words} {old} {new} {from} {to} is_old is_new comes steps =
    opens_none words old new is_old is_new comes from to steps

-- ---- a gathering of what was opened

-- each is near
all_near : (asked : List Asked) → AllByRecursion (λ (a : Asked). a.near ≡ true) asked
    → list_all (λ (a : Asked). a.near) asked ≡ true
all_near [] all = refl
all_near (a ∷ asked) all = ap (λ b. b && list_all (λ (a : Asked). a.near) asked) all.0 ∙ all_near asked all.1

both : (a b : Bool) → a ≡ true → b ≡ true → (a && b) ≡ true
both a b first second = ap (λ x. x && b) first ∙ second

-- what was opened is of one kind, and near queries have as many rows as the limit
one_kind_of : (asked : Ask) (rows : ℕ) (all : List Asked) → AllByRecursion (λ (a : Asked). a.near ≡ is_nearest (wanted_in asked)) all
    → sum_by (λ (a : Asked). a.rows) all ≡ rows → AreOfOneKind all (limit_in asked rows)
one_kind_of (Range tau code) rows all kind sum = inl kind
one_kind_of (Near number code) rows all kind sum =
    inr (both (list_all (λ (a : Asked). a.near) all) (nat_le (min number rows) (sum_by (λ (a : Asked). a.rows) all))
    (all_near all kind) (le-leb (min number rows) (sum_by (λ (a : Asked). a.rows) all) (omega (arith, sum))))

sum_of_rows : (all : List Asked) → sum_by (λ (a : Asked). a.rows) all ≡ sum (map (λ (a : Asked). a.rows) all)
sum_of_rows all = sym (sum-map (λ (a : Asked). a.rows) all)

-- a gathering of what was opened has given nothing
module _ {W : ℕ} (words : ℕ) (old new : DeskState) (sources : List (ShardSource W)) (layouts : ShardLayouts)
    (position rows : ℕ) (asked : Ask)
    (room from to : ℕ) (is_old : IsDesk words old)
    (opens : OpensAll (asks {W = W}) (stands {W = W}) old new sources layouts position rows asked room from to) where
  some_source : ShardSource W
  some_source = first_of_some sources (omega (arith, opens.number, is_old.config.some_shards))

  abbrev numbers : List ℕ
  numbers = map (λ (a : Asked). a.rows) (map (asks {W = W}) sources)

  -- what the rows of a version are
  rows_asked : (wanted : Wanted) (version : Contents) (code : List ℕ) (a : Asked) → AsksWanted wanted version code room a
      → a.rows ≡ length version.rows
  rows_asked (Within tau) version code a asks = asks.rows
  rows_asked Nearest version code a asks = asks.rows

  numbers_are : AreShardNumbers old.config.shards (rows_of (take position (seen_history new))) numbers
  numbers_are = record {
    some = is_old.config.some_shards;
    number = length-map (map (asks {W = W}) sources) (λ (a : Asked). a.rows) ∙ length-map sources (asks {W = W}) ∙ opens.number;
    each = λ shard other lt.
        let one = opens.each shard some_source lt in
        get_or-map (λ (a : Asked). a.rows) (map (asks {W = W}) sources) shard (asks some_source) other
        (omega (arith, lt, opens.number, length-map sources (asks {W = W})))
        ∙ ap (λ (a : Asked). a.rows) (get_or-map (asks {W = W}) sources shard some_source (asks some_source) (omega (arith, lt, opens.number)))
        ∙ rows_asked (wanted_in asked) one.version (asked_code asked) _ one.source_is.asks
        ∙ ap length one.version_is.rows
        ∙ ap (λ n. length (shard_rows shard n (rows_of (take position (seen_history new))))) (ap (λ (c : Config). c.shards) opens.keeps.config);
  }

  pub is_gathered : (gather : Gathered (ShardSource W)) → gather ≡ gathered sources (limit_in asked rows) 0 None
      → AllByRecursion (λ source. IsFresh (stands {W = W} source)) sources
      → AreOneLength (map (asks {W = W}) sources)
      → AllByRecursion (λ (a : Asked). a.near ≡ is_nearest (wanted_in asked)) (map (asks {W = W}) sources)
      → OpensGathered old new gather layouts position asked room from to
  is_gathered gather same fresh one_length kind =
      subst (λ g. OpensGathered {W = W} old new g layouts position asked room from to) (sym same) (record {
        rows = rows;
        gathers = record {
          limit = refl;
          given = refl;
          untouched = record {
            is_new = refl;
            fresh = fresh;
            one_length = one_length;
            one_kind = one_kind_of asked rows (map (asks {W = W}) sources) kind
                (sum_of_rows (map (asks {W = W}) sources)
                ∙ numbers_add_up old.config.shards (rows_of (take position (seen_history new))) numbers numbers_are
                ∙ sym opens.rows_are);
          };
        };
        opens = opens;
      })
