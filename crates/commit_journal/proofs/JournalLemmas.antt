-- A journal with one entry more, with one front more and with one less.
use Rattle.std.proofs.Common.{◌≡◌, ⊎_elim, ℕ, ◌+◌, ◌<◌, ◌≤◌, Bool, true, false, cond, List, [], ◌∷◌, ◌++◌, length, Some, None, refl, sym, ap, ◌∙◌, arith, length-append, subst}
use Rattle.std.specs.FinMap as map
use Rattle.std.specs.BTreeMap.{insert_entry, is_at}
use Rattle.std.specs.Map.{remove_entry}
use Rattle.std.specs.Ordering.{nat_cmp, is_eq, match_ordering}
use Rattle.std.specs.declared.cmp.Ordering.{Ordering}
use Rattle.std.specs.declared.cmp.Ordering.TheVariants.{Less, Equal, Greater}
use Rattle.std.proofs.lemmas.List.{take-append-le, take_all}
use Rattle.std.proofs.lemmas.Option.{none-some}
use Rattle.slab.specs.Slab.{Slab, Updates}
use Rattle.slab.specs.Slab as slab
use Rattle.hamming_model.specs.History.{JournalEntry, IsLegal, changed, code_at, rows_of}
use Rattle.hamming_model.specs.declared.limits.TheConstants.{ENTRIES_MOST, SESSIONS_MOST, WORDS_MOST}
use Rattle.commit_journal.specs.Fronts.{AreOlder, FrontState, Live, StandsAt, front_of, position_of, positions_of}
use Rattle.commit_journal.specs.Journals.{IsLive, JournalState, KeepsFronts, KnowsFront, Opens, empty_journal, with_entry, without_front}
use Rattle.commit_journal.specs.Kept.{IsKeptJournal, journal_of, live_of}
use Rattle.commit_journal.proofs.LiveLemmas.{second, slab_at, slab_inserted, slab_removed, stands_closed, stands_opened}

-- ---- rows
same_key : (key : ℕ) → nat_cmp key key ≡ Equal
same_key key = grind arith

-- a row that was put in and taken out again
pub removed_inserted : (rows : List (ℕ × List ℕ)) (key : ℕ) (code : List ℕ) → code_at rows key ≡ None
    → remove_entry (is_at (nat_cmp key)) (insert_entry nat_cmp rows key code) ≡ rows
removed_inserted [] key code absent = ap (λ (o : Ordering). cond (is_eq o) [] ((key, code) ∷ [])) (same_key key)
removed_inserted (row ∷ rows) key code absent = go (nat_cmp key row.0) refl absent (removed_inserted rows key code)
  where
    put : List (ℕ × List ℕ)
    put = insert_entry nat_cmp rows key code

    out : List (ℕ × List ℕ) → List (ℕ × List ℕ)
    out each = remove_entry (is_at (nat_cmp key)) each

    go : (o : Ordering) → nat_cmp key row.0 ≡ o → cond (is_eq o) (Some row.1) (code_at rows key) ≡ None → (code_at rows key ≡ None → out put ≡ rows)
        → out (match_ordering o ((key, code) ∷ row ∷ rows) ((row.0, code) ∷ rows) (row ∷ put)) ≡ row ∷ rows
    go Less e none rest = ap (λ (o : Ordering). cond (is_eq o) (row ∷ rows) ((key, code) ∷ out (row ∷ rows))) (same_key key)
    go Equal e none rest = cc
    go Greater e none rest = ap (λ (o : Ordering). cond (is_eq o) put (row ∷ out put)) e ∙ ap (λ (more : List (ℕ × List ℕ)). row ∷ more) (rest none)

-- ---- one entry more
module _ (state : JournalState) (entry : JournalEntry) where
  longer : length (state.history ++ entry ∷ []) ≡ length state.history + 1
  longer = length-append state.history (entry ∷ [])

  -- the journal stays sound and its rows those of the history
  pub kept_more : (words : ℕ) (rows left : List (ℕ × List ℕ)) → IsKeptJournal words state rows
      → IsLegal (state.history ++ entry ∷ []) → length state.history < state.limit
      → left ≡ changed rows entry.operation → rows_of (state.history ++ entry ∷ []) ≡ changed (rows_of state.history) entry.operation
      → IsKeptJournal words (with_entry state entry) left
  kept_more words rows left kept legal room new more = record {
    few_words = kept.few_words;
    sound = record {
      legal = legal;
      few = omega (arith, longer, room);
      limited = kept.sound.limited;
      numbered = kept.sound.numbered;
      none_beyond = λ position stands. omega (arith, longer, kept.sound.none_beyond position stands);
    };
    same_rows = new ∙ ap (λ (each : List (ℕ × List ℕ)). changed each entry.operation) kept.same_rows ∙ sym more;
  }

  -- and knows the fronts that it knew
  pub fronts_more : KeepsFronts state (with_entry state entry)
  fronts_more front knows =
      let within = knows.within in
      record {
        begins = knows.begins ∙ sym (take-append-le (position_of front) state.history (entry ∷ []) within);
        within = omega (arith, longer, within);
        older = knows.older;
      }

-- after a decision
pub fronts_decided : (state : JournalState) (entry : JournalEntry) (accepted : Bool)
    → KeepsFronts state (record state { history = cond accepted (state.history ++ entry ∷ []) state.history })
fronts_decided state entry true = fronts_more state entry
fronts_decided state entry false = λ front knows. knows

-- ---- one front more
module _ (state : JournalState) (id who : ℕ) where
  abbrev opened : JournalState
  opened = record state { live = map.insert state.live id (who, length state.history) }

  -- the journal stays sound
  pub kept_opened : (words : ℕ) (rows : List (ℕ × List ℕ)) → IsKeptJournal words state rows → IsKeptJournal words opened rows
  kept_opened words rows kept = record {
    few_words = kept.few_words;
    sound = record {
      legal = kept.sound.legal;
      few = kept.sound.few;
      limited = kept.sound.limited;
      numbered = kept.sound.numbered;
      none_beyond = λ position stands. ⊎_elim (λ (here : length state.history ≡ position). omega (arith, here))
          (λ (old : StandsAt (positions_of state.live) position). kept.sound.none_beyond position old)
          (stands_opened state.live id who (length state.history) position stands);
    };
    same_rows = kept.same_rows;
  }

  -- and knows the fronts that it knew: the new one is below none of them
  pub fronts_opened : KeepsFronts state opened
  fronts_opened front knows = record {
    begins = knows.begins;
    within = knows.within;
    older = λ position stands below. ⊎_elim (λ (here : length state.history ≡ position). absurd (omega (arith, here, below, knows.within)))
        (λ (old : StandsAt (positions_of state.live) position). knows.older position old below)
        (stands_opened state.live id who (length state.history) position stands);
  }

  -- and the new one
  pub knows_opened : (older : List ℕ) → AreOlder state.live (length state.history) older → KnowsFront opened (front_of id who older state.history)
  knows_opened older are = record {
    begins = sym (take_all (length state.history) state.history (omega arith));
    within = omega arith;
    older = λ position stands below. ⊎_elim (λ (here : length state.history ≡ position). absurd (omega (arith, here, below)))
        (λ (old : StandsAt (positions_of state.live) position). are.all position old below)
        (stands_opened state.live id who (length state.history) position stands);
  }

-- the same of a slab in which the front was put
module _ (history entries : List JournalEntry) (old new : Slab (ℕ × ℕ)) (next limit id who position : ℕ) (number : position ≡ length history)
    (updates : Updates old new id (Some (who, position))) where
  abbrev before : JournalState
  before = journal_of history old next limit

  abbrev after : JournalState
  after = journal_of history new next limit

  is_opened : after ≡ opened before id who
  is_opened = ap (λ (live : Live). record before { live = live })
      (slab_inserted old new id (who, position) updates ∙ ap (λ (n : ℕ). map.insert (live_of old) id (who, n)) number)

  pub slab_kept : (words : ℕ) (rows : List (ℕ × List ℕ)) → IsKeptJournal words before rows → IsKeptJournal words after rows
  slab_kept words rows kept = rw is_opened (kept_opened before id who words rows kept)

  pub slab_keeps : KeepsFronts before after
  slab_keeps = subst (KeepsFronts before) (sym is_opened) (fronts_opened before id who)

  module _ (older : List ℕ) (same : entries ≡ history) where
    abbrev made : FrontState
    made = front_of id who older entries

    pub slab_lives : IsLive after made
    slab_lives = slab_at new id ∙ updates.changed ∙ ap (λ (n : ℕ). Some (who, n)) (number ∙ sym (ap length same))

    pub slab_knows : AreOlder (live_of old) position older → KnowsFront after made
    slab_knows are = subst (λ (state : JournalState). KnowsFront state made) (sym is_opened)
        (rw same (knows_opened before id who older (rw (← number) are)))

    pub slab_opens : AreOlder (live_of old) position older → slab.get old id ≡ None → Opens before after who made
    slab_opens are vacant = record { fresh = slab_at old id ∙ vacant; who = refl; entries = same; older = rw (← number) are; after = is_opened }

-- ---- one front less
pub kept_closed : (words : ℕ) (state : JournalState) (id : ℕ) (rows : List (ℕ × List ℕ)) → IsKeptJournal words state rows
    → IsKeptJournal words (without_front state id) rows
kept_closed words state id rows kept = record {
  few_words = kept.few_words;
  sound = record {
    legal = kept.sound.legal;
    few = kept.sound.few;
    limited = kept.sound.limited;
    numbered = kept.sound.numbered;
    none_beyond = λ position stands. kept.sound.none_beyond position (stands_closed state.live id position stands);
  };
  same_rows = kept.same_rows;
}

pub fronts_closed : (state : JournalState) (id : ℕ) → KeepsFronts state (without_front state id)
fronts_closed state id closed knows = record {
  begins = knows.begins;
  within = knows.within;
  older = λ position stands below. knows.older position (stands_closed state.live id position stands) below;
}

-- the same of a slab from which it was taken
pub slab_closed : (history : List JournalEntry) (old new : Slab (ℕ × ℕ)) (next limit id : ℕ) → Updates old new id None
    → journal_of history new next limit ≡ without_front (journal_of history old next limit) id
slab_closed history old new next limit id updates =
    ap (λ (live : Live). record (journal_of history old next limit) { live = live }) (slab_removed old new id updates)

-- ---- no entries
pub kept_empty : (words limit next : ℕ) → words ≤ WORDS_MOST → limit ≤ ENTRIES_MOST → next ≤ SESSIONS_MOST → IsLegal []
    → IsKeptJournal words (record (empty_journal limit) { next = next }) []
kept_empty words limit next few limited numbered legal = record {
  few_words = few;
  sound = record {
    legal = legal;
    few = omega arith;
    limited = limited;
    numbered = numbered;
    none_beyond = λ position stands. absurd (none-some position (sym (ap second (map.get-empty nat_cmp stands.number)) ∙ stands.stands));
  };
  same_rows = refl;
}
