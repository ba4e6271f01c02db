-- The text of replies, reply by reply.
use Rattle.std.proofs.Common.{◌≡◌, ℕ, ◌+◌, ◌<◌, ◌==◌, not, nat_lt, Bool, true, false, cond, List, [], ◌∷◌, ◌++◌, length, take, drop, position, Some, None, sum_by, refl, sym, ap, ◌∙◌, subst, arith, append_assoc, add-one, length-append}
use Rattle.std.proofs.lemmas.List.{length-drop}
use Rattle.std.proofs.lemmas.List.Sums.{sum_by-cons}
use Rattle.std.specs.List.{prefix_len, AllByRecursion}
use Rattle.std.proofs.lemmas.Bool.{and_parts, lt-ltb, eqb-true}
use Rattle.query_protocol.specs.Replies.{LineReply, reply_text, text}
use Rattle.query_protocol.specs.Written.{has_no_feed, IsWritten}
use Rattle.load_sums.specs.Lines.{IsFirstLine}
use Rattle.load_sums.specs.Sums.{hits_of, told_bound, reads_of, lacks_of, IsSumOf, AddsReply, IsSumBefore, CanAdd, HaveSums}
use Rattle.load_sums.specs.declared.sums.Sums.{Sums}

-- a line ends at the first feed
line_ends : (line rest : List ℕ) → has_no_feed line ≡ true → prefix_len (λ byte. not (byte == 10)) (line ++ 10 ∷ rest) ≡ length line
line_ends [] rest plain = refl
line_ends (byte ∷ line) rest plain =
    let both = and_parts (not (byte == 10)) (has_no_feed line) plain in
    let more : prefix_len (λ byte. not (byte == 10)) (line ++ 10 ∷ rest) ≡ length line = line_ends line rest both.1 in
    ap (λ (test : Bool). cond test (1 + prefix_len (λ byte. not (byte == 10)) (line ++ 10 ∷ rest)) 0) both.0 ∙ omega (arith, more)

line_taken : (line rest : List ℕ) → take (length line) (line ++ rest) ≡ line
line_taken [] rest = refl
line_taken (byte ∷ line) rest = ap (λ (bytes : List ℕ). byte ∷ bytes) (line_taken line rest)

line_dropped : (line rest : List ℕ) → drop (length line + 1) (line ++ 10 ∷ rest) ≡ rest
line_dropped [] rest = refl
line_dropped (byte ∷ line) rest = rw add-one (rw add-one at (line_dropped line rest))

feed_at : (line rest : List ℕ) → has_no_feed line ≡ true → position (λ byte. byte == 10) (line ++ 10 ∷ rest) ≡ Some (length line)
feed_at line rest plain =
    let size : length line < length (line ++ 10 ∷ rest) = rw (length-append line (10 ∷ rest)) (omega arith) in
    ap (λ (place : ℕ). cond (nat_lt place (length (line ++ 10 ∷ rest))) (Some place) None) (line_ends line rest plain)
    ∙ ap (λ (within : Bool). cond within (Some (length line)) None) (lt-ltb (length line) (length (line ++ 10 ∷ rest)) size)

-- the first line of a text that begins with a line
pub first_cut : (line rest found after : List ℕ) → has_no_feed line ≡ true → IsFirstLine (line ++ 10 ∷ rest) found after
    → (found ≡ line) × (after ≡ rest)
first_cut line rest found after plain cut =
    let both : Some cut.place ≡ Some (length line) = cut.feed ∙ feed_at line rest plain in
    let place : cut.place ≡ length line = cc in (
      cut.line_is ∙ ap (λ n. take n (line ++ 10 ∷ rest)) place ∙ line_taken line (10 ∷ rest),
      cut.after_is ∙ ap (λ n. drop (n + 1) (line ++ 10 ∷ rest)) place ∙ line_dropped line rest,
    )

-- fewer bytes follow
pub fewer_left : (bytes line after : List ℕ) → 0 < length bytes → IsFirstLine bytes line after → length after < length bytes
fewer_left bytes line after some cut = rw cut.after_is (rw (length-drop (cut.place + 1) bytes) (omega (arith, some)))

-- the replies that are left before a line of them was added, and after it
abbrev IsLeft : List LineReply → List ℕ → Sums → List LineReply → Type 0
IsLeft said rest sums left = (rest ≡ text left) × AllByRecursion IsWritten left × IsSumBefore said left sums

abbrev pub Left : List LineReply → List ℕ → Sums → Type 0
Left said rest sums = (left : List LineReply) × IsLeft said rest sums left

pub one_added : (said : List LineReply) (rest line after : List ℕ) (old new : Sums)
    → ((this : LineReply) → IsWritten this → has_no_feed (reply_text this) ≡ true) → 0 < length rest → IsFirstLine rest line after
    → ((this : LineReply) → IsWritten this → line ≡ reply_text this → AddsReply this old new)
    → (left : List LineReply) → IsLeft said rest old left → Left said after new
one_added said rest line after old new plain some cut adds [] held = absurd (omega (arith, some, ap length held.0))
one_added said rest line after old new plain some cut adds (this ∷ others) held =
    let written : IsWritten this = held.1.0 in
    let whole : rest ≡ reply_text this ++ 10 ∷ text others = held.0 ∙ append_assoc (reply_text this) (10 ∷ []) (text others) in
    let at = first_cut (reply_text this) (text others) line after (plain this written)
    (subst (λ bytes. IsFirstLine bytes line after) whole cut) in
    let more = adds this written at.0 in
    let before : IsSumBefore said (this ∷ others) old = held.2 in
    let of_hits : sum_by hits_of (this ∷ others) ≡ hits_of this + sum_by hits_of others = sum_by-cons hits_of this others in
    let of_bound : sum_by told_bound (this ∷ others) ≡ told_bound this + sum_by told_bound others = sum_by-cons told_bound this others in
    let of_reads : sum_by reads_of (this ∷ others) ≡ reads_of this + sum_by reads_of others = sum_by-cons reads_of this others in
    let of_lacks : sum_by lacks_of (this ∷ others) ≡ lacks_of this + sum_by lacks_of others = sum_by-cons lacks_of this others in (
      others,
      (
        at.1,
        held.1.1,
        record {
          hits = omega (arith, more.hits, before.hits, of_hits);
          bound = omega (arith, more.bound, before.bound, of_bound);
          reads = omega (arith, more.reads, before.reads, of_reads);
          none_lacks = omega (arith, more.not_lacks, before.none_lacks, of_lacks);
        },
      ),
    )

-- replies that are left have a feed
feed_is_there : (said : List LineReply) (rest : List ℕ) (sums : Sums) → ((this : LineReply) → IsWritten this → has_no_feed (reply_text this) ≡ true)
    → 0 < length rest → (left : List LineReply) → IsLeft said rest sums left → position (λ byte. byte == 10) rest ≡ None → ⊥
feed_is_there said rest sums plain some [] held none = absurd (omega (arith, some, ap length held.0))
feed_is_there said rest sums plain some (this ∷ others) held none =
    let whole : rest ≡ reply_text this ++ 10 ∷ text others = held.0 ∙ append_assoc (reply_text this) (10 ∷ []) (text others) in
    let found : position (λ byte. byte == 10) rest ≡ Some (length (reply_text this)) =
    ap (λ (bytes : List ℕ). position (λ byte. byte == 10) bytes) whole ∙ feed_at (reply_text this) (text others) (plain this held.1.0) in
    let both : Some (length (reply_text this)) ≡ None = sym found ∙ none in
    cc

pub has_feed : (said : List LineReply) (rest : List ℕ) (sums : Sums) → ((this : LineReply) → IsWritten this → has_no_feed (reply_text this) ≡ true)
    → 0 < length rest → Left said rest sums → position (λ byte. byte == 10) rest ≡ None → ⊥
has_feed said rest sums plain some held none = feed_is_there said rest sums plain some held.0 held.1 none

-- replies of which one can't be added have no sums
never_added : (said : List LineReply) (rest line after : List ℕ) (sums : Sums)
    → ((this : LineReply) → IsWritten this → has_no_feed (reply_text this) ≡ true) → 0 < length rest → IsFirstLine rest line after
    → ((this : LineReply) → IsWritten this → line ≡ reply_text this → ¬ CanAdd this sums)
    → (left : List LineReply) → IsLeft said rest sums left → ¬ HaveSums said
never_added said rest line after sums plain some cut never [] held = λ have. absurd (omega (arith, some, ap length held.0))
never_added said rest line after sums plain some cut never (this ∷ others) held = λ have.
    let written : IsWritten this = held.1.0 in
    let whole : rest ≡ reply_text this ++ 10 ∷ text others = held.0 ∙ append_assoc (reply_text this) (10 ∷ []) (text others) in
    let at = first_cut (reply_text this) (text others) line after (plain this written)
    (subst (λ bytes. IsFirstLine bytes line after) whole cut) in
    let before : IsSumBefore said (this ∷ others) sums = held.2 in
    let of_hits : sum_by hits_of (this ∷ others) ≡ hits_of this + sum_by hits_of others = sum_by-cons hits_of this others in
    let of_bound : sum_by told_bound (this ∷ others) ≡ told_bound this + sum_by told_bound others = sum_by-cons told_bound this others in
    let of_reads : sum_by reads_of (this ∷ others) ≡ reads_of this + sum_by reads_of others = sum_by-cons reads_of this others in
    let of_lacks : sum_by lacks_of (this ∷ others) ≡ lacks_of this + sum_by lacks_of others = sum_by-cons lacks_of this others in
    never this written at.0 (record {
      not_lacks = omega (arith, before.none_lacks, of_lacks, have.none_lacks);
      few_hits = omega (arith, before.hits, of_hits, have.few_hits);
      few_bounds = omega (arith, before.bound, of_bound, have.few_bounds);
      few_reads = omega (arith, before.reads, of_reads, have.few_reads);
    })

pub none_added_more : (said : List LineReply) (rest line after : List ℕ) (sums : Sums)
    → ((this : LineReply) → IsWritten this → has_no_feed (reply_text this) ≡ true) → 0 < length rest → IsFirstLine rest line after
    → ((this : LineReply) → IsWritten this → line ≡ reply_text this → ¬ CanAdd this sums) → Left said rest sums → ¬ HaveSums said
none_added_more said rest line after sums plain some cut never held = never_added said rest line after sums plain some cut never held.0 held.1

-- a reply has a line, which has a feed
no_reply : (line rest : List ℕ) → ◌≡◌ {A = List ℕ} [] (line ++ 10 ∷ [] ++ rest) → ⊥
no_reply line rest is =
    let size = ap length is in
    absurd (omega (arith, size, length-append (line ++ 10 ∷ []) rest, length-append line (10 ∷ [])))

-- where nothing is left the sums are those of all
none_left : (said : List LineReply) (sums : Sums) (left : List LineReply) → IsLeft said [] sums left → IsSumOf said sums
none_left said sums [] held =
    let before : IsSumBefore said [] sums = held.2 in
    record {
      hits = omega (arith, before.hits);
      bound = omega (arith, before.bound);
      reads = omega (arith, before.reads);
      none_lacks = omega (arith, before.none_lacks);
    }
none_left said sums (this ∷ others) held = absurd (no_reply (reply_text this) (text others) held.0)

pub all_added : (said : List LineReply) (sums : Sums) → Left said [] sums → IsSumOf said sums
all_added said sums held = none_left said sums held.0 held.1

-- bytes that were tested for being none
pub empty_is : (bytes : List ℕ) → true ≡ (length bytes == 0) → bytes ≡ []
empty_is [] is = refl
empty_is (byte ∷ bytes) is = let none : length (byte ∷ bytes) ≡ 0 = eqb-true (length (byte ∷ bytes)) 0 (sym is) in absurd (omega (arith, none))

pub some_left : (bytes : List ℕ) → false ≡ (length bytes == 0) → 0 < length bytes
some_left [] is = cc
some_left (byte ∷ bytes) is = omega arith

-- before the first reply
pub none_added : (said : List LineReply) (bytes : List ℕ) → bytes ≡ text said → AllByRecursion IsWritten said
    → Left said bytes (record { hits = 0; bound = 0; reads = 0 })
none_added said bytes is written =
    (said, (is, written, record { hits = omega arith; bound = omega arith; reads = omega arith; none_lacks = refl }))
