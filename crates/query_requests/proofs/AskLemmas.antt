-- Lemmas on `cost`, `plan` and `cancel`: what each tells is a step of a session.
use Rattle.std.proofs.Common.{◌≡◌, ℕ, ◌<◌, ◌&&◌, min, false, cond, List, [], ◌∷◌, ◌++◌, take, map}
use Rattle.std.proofs.Common.{Option, Some, Result, Ok, refl, sym, ap, ◌∙◌, subst, arith, inl, inr}
use Rattle.std.specs.List.{sum_by}
use Rattle.std.proofs.lemmas.List.Sums.{sum-map}
use Rattle.hamming_model.specs.declared.limits.TheConstants.{PARTS_MOST}
use Rattle.hamming_model.specs.History.{JournalEntry}
use Rattle.line_io.specs.declared.source.Failed.{Failed}
use Rattle.part_layout.specs.Ranges.{IsConfig}
use Rattle.query_protocol.specs.Requests.{LineRequest, Cost, Plan, Cancel}
use Rattle.query_protocol.specs.Replies.{reply_line, LineReply}
use Rattle.query_protocol.specs.Replies as reply
use Rattle.session_model.specs.State.{State, query_of, open_queries, replaced}
use Rattle.session_desk.specs.Desks.{DeskState}
use Rattle.session_model.specs.Ledger.{Ledgers, sum_of, last_given, IsPlanOfQuery}
use Rattle.session_model.specs.QuerySteps.{IfOpen, Costs, TellsPlan, Cancels, closed_query, end_reply}
use Rattle.session_model.specs.Step.{Answers}
use Rattle.session_model.specs.Commits.{accepted}
use Rattle.open_queries.specs.Queries.{Changes, Removes, IsSame, last_in}
use Rattle.open_queries.specs.Answers.{CostsAs, IsCost, IsPlan, TellsOfQuery, CancelsAs, reply_to_cancel}
use Rattle.open_queries.specs.Writing.{Writes}
use Rattle.open_session.specs.Cursors.{ShardSource, Cursor, asks, stands}
use Rattle.open_session.specs.LastPins.{may_pin, was_opened}
use Rattle.open_session.specs.Moments.{Moment, ReadsTo}
use Rattle.open_session.specs.Meaning.{AllKeep, IsSettled}
use Rattle.open_session.proofs.DeskLemmas.{only_still}
use Rattle.open_session.proofs.QueryLemmas.{IsFound, found_changed, found_removed, found_holds, of_open}
use Rattle.open_session.proofs.QueryLemmas.{replaced_same, replaced_closed, keeps_same, keeps_later, all_replaced}
use Rattle.open_session.proofs.QueryLemmas.{pinned_replaced, read_replaced}
use Rattle.open_session.proofs.BoundLemmas.{last_is, given_near, is_bound, all_bounds_are, plan_at, reads_few, sum_is_of}
use Rattle.query_requests.proofs.NextLemmas.{unknown_step}
use Rattle.session_model.proofs.SampleLemmas.{samples_stay}
use Rattle.open_session.proofs.Here.{Here, StepTo, asked_here, exchange_here, later_learned, pinned_still, quiet}
use Rattle.open_session.proofs.Here.{on_ok, quiet_learns, samples_here, within_new, writes_one}

module _ {A : Type 0} {W : ℕ} (p : Here W) (after : Option (List ℕ)) (result : Result A Failed)
    (new : Moment W) (ranges : IsConfig p.config)
    (desk : new.desk ≡ p.old.desk) (pinned : new.pinned ≡ p.old.pinned) (position : new.position ≡ p.old.position)
    (ledgers : new.ledgers ≡ p.old.ledgers) (samples : new.samples ≡ p.old.samples) where
  -- ---- a cursor that was only asked

  module _ (tag : List ℕ) (was is : Cursor W) (changes : Changes p.old.cursors new.cursors tag was is)
      (same : IsSame (asks {W = W}) (stands {W = W}) was is) where
    abbrev it : IsFound p.config p.history changes.front was changes.back (open_queries p.s.queries) tag
    it = found_changed p.config p.history p.old.cursors new.cursors (open_queries p.s.queries) tag was is
        p.stands.keep changes

    found : query_of tag p.s.queries ≡ Some it.query
    found = of_open tag p.s.queries ∙ it.found

    -- the cursors mean the state as before
    keep_still : AllKeep p.config p.history new.cursors (open_queries p.s.queries)
    keep_still = subst (λ l. AllKeep p.config p.history l (open_queries p.s.queries)) (sym changes.new_is)
        (subst (AllKeep p.config p.history (changes.front ++ is ∷ changes.back))
        (replaced_same tag it.query (open_queries p.s.queries) it.found)
        (it.keep is it.query (keeps_same p.config p.history was is it.query it.keeps same)))

    -- a reply that changes nothing
    asked_step : (asked : LineRequest) (this : LineReply) → asked_here p ≡ Ok (Some asked)
        → accepted (Ok (Some asked)) (this ∷ []) ≡ [] → (may_pin (Ok (Some asked)) && was_opened (this ∷ [])) ≡ false
        → ((later : List JournalEntry) → Answers (Ok (Some asked)) p.config (p.history ++ later) p.s
        (exchange_here p new (this ∷ []) p.s.position) p.s)
        → Writes p.before after result (reply_line this) → StepTo p after result new
    asked_step asked this reads none none_opened answers wrote =
        quiet p after result new (Ok (Some asked)) (this ∷ []) reads none none_opened (only_still p.old.desk new.desk desk) ledgers pinned position
        samples keep_still answers
        (writes_one p.before after result this wrote)

    costed : (later : List JournalEntry) (this : LineReply) → IsCost (asks {W = W}) (stands {W = W}) tag was this
        → Costs p.config (p.history ++ later) tag it.query p.s (exchange_here p new (this ∷ []) p.s.position) p.s
    costed later this cost =
        let query = it.query in
        let keeps = keeps_later p.config p.history later was query it.keeps in
        let last = last_given p.config (p.history ++ later) query in
        let same_last : was.gather.last ≡ last = cost.last ∙ last_is p.config (p.history ++ later) was query keeps ranges in
        let near = given_near p.config (p.history ++ later) was query keeps ranges query.given in
        let sources = was.gather.sources in
        let reads = λ (source : ShardSource W). (stands {W = W} source).reads in
        let bound = sum_of (map (λ source. (asks {W = W} source).bound last) sources) in
        let settled = found_holds (IsSettled p.config p.history) tag p.s.queries query found p.stands.settled in
        let few = reads_few p.config p.history was query it.keeps ranges settled in
        let same_bound : min (sum_by (λ source. (asks {W = W} source).bound was.gather.last) sources) 18446744073709551615 ≡ bound =
        ap (λ l. min (sum_by (λ source. (asks {W = W} source).bound l) sources) 18446744073709551615) same_last
        ∙ all_bounds_are p.config (p.history ++ later) was query keeps ranges last near in
        let same_reads : min (sum_by reads sources) 18446744073709551615 ≡ sum_of query.reads =
        omega (arith, sym (sum-map reads sources) ∙ sum_is_of (map reads sources), ap sum_of it.keeps.reads, few, ranges.few_shards) in
        record {
          bound = bound;
          is_bound = is_bound p.config (p.history ++ later) was query keeps ranges last near;
          given = omega (arith, cost.given, it.keeps.given, same_reads);
          within = omega (arith, cost.within, same_reads, same_bound);
          small = omega (arith, same_bound);
          said_is = ap (λ (r : LineReply). r ∷ []) cost.told
              ∙ ap (λ (n : ℕ). reply.Cost tag n (min (sum_by (λ source. (asks {W = W} source).bound was.gather.last) sources)
              18446744073709551615) ∷ []) same_reads
              ∙ ap (λ (n : ℕ). reply.Cost tag (sum_of query.reads) n ∷ []) same_bound;
          position = refl;
          same = refl;
        }

    planned : (later : List JournalEntry) (shard : ℕ) (this : LineReply)
        → IsPlan (asks {W = W}) tag shard was this
        → TellsPlan p.config (p.history ++ later) tag shard it.query p.s
        (exchange_here p new (this ∷ []) p.s.position) p.s
    planned later shard this told =
        let query = it.query in
        let keeps = keeps_later p.config p.history later was query it.keeps in
        let last = last_in (asks {W = W}) was in
        let plan = (asks told.source).plan last in
        let lt : shard < p.config.shards = omega (arith, told.within, it.keeps.sources) in
        record {
          thresholds = take PARTS_MOST plan.0;
          cost = plan.1;
          is_plan = subst (λ source. IsPlanOfQuery p.config (p.history ++ later) query shard
              (take PARTS_MOST ((asks source).plan last).0) ((asks source).plan last).1) (told.at told.source)
              (plan_at p.config (p.history ++ later) was query keeps ranges last
              (last_is p.config (p.history ++ later) was query keeps ranges) shard told.source lt);
          said_is = ap (λ (r : LineReply). r ∷ []) told.told;
          position = refl;
          same = refl;
        }

  -- ---- `cost`

  pub cost_step : (tag : List ℕ) (this : LineReply) → asked_here p ≡ Ok (Some (Cost tag))
      → CostsAs (asks {W = W}) (stands {W = W}) p.old.cursors tag this new.cursors
      → Writes p.before after result (reply_line this) → StepTo p after result new
  cost_step tag this reads (inl unknown) wrote =
      unknown_step p after result new (Cost tag) tag (λ h. Costs p.config h tag) reads refl
      (λ h e t answers. answers) unknown.0 unknown.1 desk ledgers pinned position samples
      (subst (λ r. Writes p.before after result (reply_line r)) unknown.2 wrote)
  cost_step tag this reads (inr told) wrote =
      asked_step tag told.0 told.1 told.2 told.3 (Cost tag) this reads refl refl
      (λ later. subst (λ o. IfOpen o (Costs p.config (p.history ++ later) tag) p.s
      (exchange_here p new (this ∷ []) p.s.position) p.s) (sym (found tag told.0 told.1 told.2 told.3))
      (costed tag told.0 told.1 told.2 told.3 later this told.4)) wrote

  -- ---- `plan`

  pub plan_step : (tag : List ℕ) (shard : ℕ) (this : LineReply) → asked_here p ≡ Ok (Some (Plan tag shard))
      → TellsOfQuery (asks {W = W}) (stands {W = W}) p.old.cursors tag (IsPlan (asks {W = W}) tag shard) this new.cursors
      → Writes p.before after result (reply_line this) → StepTo p after result new
  plan_step tag shard this reads (inl unknown) wrote =
      unknown_step p after result new (Plan tag shard) tag (λ h. TellsPlan p.config h tag shard) reads refl
      (λ h e t answers. answers) unknown.0 unknown.1 desk ledgers pinned position samples
      (subst (λ r. Writes p.before after result (reply_line r)) unknown.2 wrote)
  plan_step tag shard this reads (inr told) wrote =
      asked_step tag told.0 told.1 told.2 told.3 (Plan tag shard) this reads refl refl
      (λ later. subst (λ o. IfOpen o (TellsPlan p.config (p.history ++ later) tag shard) p.s
      (exchange_here p new (this ∷ []) p.s.position) p.s) (sym (found tag told.0 told.1 told.2 told.3))
      (planned tag told.0 told.1 told.2 told.3 later shard this told.4)) wrote

  -- ---- `cancel`

  module _ (tag : List ℕ) (this : LineReply) (reads : asked_here p ≡ Ok (Some (Cancel tag))) where
    cancelled : (was : Cursor W) → Removes p.old.cursors new.cursors tag was → this ≡ reply_to_cancel tag was
        → Writes p.before after result (reply_line this) → StepTo p after result new
    cancelled was removes told wrote =
        let it = found_removed p.config p.history p.old.cursors new.cursors (open_queries p.s.queries) tag was
        p.stands.keep removes in
        let query = it.query in
        let closed = closed_query query in
        let found : query_of tag p.s.queries ≡ Some query = of_open tag p.s.queries ∙ it.found in
        let s = p.s in
        let t : State = record s { queries = replaced tag closed s.queries } in
        let only = only_still p.old.desk new.desk desk in
        let said : this ≡ end_reply query.done tag query.given =
        told ∙ ap (λ b. cond b (reply.Closed tag was.gather.given) (reply.Cancelled tag was.gather.given)) it.keeps.done
        ∙ ap (end_reply query.done tag) it.keeps.given in
        let settled = found_holds (IsSettled p.config p.history) tag s.queries query found p.stands.settled in
        let quiet : accepted (Ok (Some (Cancel tag))) (this ∷ []) ≡ [] = refl in
        quiet_learns p after result new (Ok (Some (Cancel tag))) (this ∷ []) t reads quiet s.position only (λ alone. refl)
        (within_new p new.desk only.learns)
        (later_learned p new.desk only.learns (ap (λ (d : DeskState). d.config) desk)
        (λ h. Answers (Ok (Some (Cancel tag))) p.config h s (exchange_here p new (this ∷ []) s.position) t)
        (λ later. subst (λ o. IfOpen o (Cancels tag) s (exchange_here p new (this ∷ []) s.position) t) (sym found)
        (record { said_is = ap (λ (r : LineReply). r ∷ []) said; position = refl; closed = refl })))
        (writes_one p.before after result this wrote)
        (subst (λ l. ReadsTo p.old.ledgers.reads l.reads s.queries t.queries) (sym ledgers)
        (record { number = refl; each = λ ledger lt. omega (arith, read_replaced ledger tag query closed s.queries found) }))
        (ap (λ (l : Ledgers). l.upkeep) ledgers)
        (all_replaced (IsSettled p.config p.history) tag closed s.queries p.stands.settled
        (record {
          within = settled.within;
          bounded = record {
            number = settled.bounded.number;
            within = λ shard lt. record {
              bound = (settled.bounded.within shard lt).bound;
              is_bound = (settled.bounded.within shard lt).is_bound;
              within = (settled.bounded.within shard lt).within;
            };
          };
        }))
        (samples_here p new t.queries samples (samples_stay tag s.queries query closed found refl))
        refl refl refl
        (on_ok result (AllKeep p.config p.history new.cursors (open_queries t.queries))
        (subst (λ l. AllKeep p.config p.history l (open_queries t.queries)) (sym removes.new_is)
        (subst (AllKeep p.config p.history (removes.front ++ removes.back))
        (sym (replaced_closed tag closed s.queries refl)) it.gone)))
        (pinned_still p new t pinned (pinned_replaced tag query closed s.queries found refl)) pinned refl
        (position ∙ p.stands.position)

    pub cancel_step : CancelsAs p.old.cursors tag this new.cursors
        → Writes p.before after result (reply_line this) → StepTo p after result new
    cancel_step (inl unknown) wrote =
        unknown_step p after result new (Cancel tag) tag (λ h. Cancels tag) reads refl
        (λ h e t answers. answers) unknown.0 unknown.1 desk ledgers pinned position samples
        (subst (λ r. Writes p.before after result (reply_line r)) unknown.2 wrote)
    cancel_step (inr told) wrote = cancelled told.0 told.1 told.2 wrote
