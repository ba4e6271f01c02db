-- Lemmas on what is written piece by piece, and on the text of hits.
use Rattle.std.proofs.Common.{◌≡◌, ℕ, ◌+◌, ◌≤◌, ◌<◌, List, [], ◌++◌, length, take, Option, Result}
use Rattle.std.proofs.Common.{Ok, Err, sym, ap, ◌∙◌, subst, arith, append-nil, length-append}
use Rattle.std.specs.Io.KnownBytes.{Appends}
use Rattle.std.proofs.KnownBytes.{Appends-trans}
use Rattle.std.proofs.Math.Seq.{take-append-add}
use Rattle.std.proofs.lemmas.List.{take-append-le, map-append}
use Rattle.std.proofs.lemmas.List.Concat.{flat_map-append}
use Rattle.line_io.specs.declared.source.Failed.{Failed}
use Rattle.hamming_model.specs.declared.hit.Hit.{Hit}
use Rattle.query_protocol.specs.Replies.{text, reply_line}
use Rattle.query_protocol.specs.Replies.{LineReply}
use Rattle.query_protocol.specs.Replies as reply
use Rattle.session_model.specs.QuerySteps.{hit_replies}
use Rattle.open_queries.specs.Writing.{Writes}

-- where a sink refused a part of a piece, it has a part of the whole
pub part_of_whole : (a b c : Option (List ℕ)) (done piece rest whole : List ℕ) → Appends a b done
    → (k : ℕ) → k < length piece → Appends b c (take k piece) → whole ≡ done ++ (piece ++ rest)
    → (x : ℕ) × (x < length whole) × Appends a c (take x whole)
part_of_whole a b c done piece rest whole p k lt q is =
    let within : k ≤ length piece = omega arith in
    let front : take (length done + k) (done ++ (piece ++ rest)) ≡ done ++ take k piece =
    take-append-add done (piece ++ rest) k
    ∙ ap (λ l. done ++ l) (take-append-le k piece rest within) in
    let short : length done + k < length (done ++ (piece ++ rest)) = omega
    (arith, length-append done (piece ++ rest), length-append piece rest, lt) in (
      length done + k,
      subst (λ w. length done + k < length w) (sym is) short,
      subst (λ w. Appends a c (take (length done + k) w)) (sym is)
          (subst (Appends a c) (sym front) (Appends-trans a b c done (take k piece) p q)),
    )

-- one piece whole, and then another or a part of it
pub writes_after : {A : Type 0} (a b c : Option (List ℕ)) (result : Result A Failed)
    (first second : List ℕ) → Appends a b first → Writes b c result second
    → Writes a c result (first ++ second)
writes_after a b c (Ok value) first second p w = Appends-trans a b c first second p w
writes_after a b c (Err failed) first second p w =
    part_of_whole a b c first second [] (first ++ second) p w.0 w.1 w.2
    (ap (λ l. first ++ l) (sym (append-nil second)))

-- a part of one piece is a part of it and another
pub writes_front : (A B : Type 0) (a b : Option (List ℕ)) (failed failed' : Failed)
    (first second : List ℕ) → Writes {A = A} a b (Err failed) first
    → Writes {A = B} a b (Err failed') (first ++ second)
writes_front A B a b failed failed' first second w =
    let within : w.0 ≤ length first = omega (arith, w.1) in (
      w.0,
      omega (arith, w.1, length-append first second),
      subst (Appends a b)
          (sym (take-append-le w.0 first second within)) w.2,
    )

-- ---- the text of hits

pub text_append : (a b : List LineReply) → text (a ++ b) ≡ text a ++ text b
text_append a b = flat_map-append reply_line a b

pub hits_append : (tag : List ℕ) (a b : List Hit)
    → text (hit_replies tag (a ++ b)) ≡ text (hit_replies tag a) ++ text (hit_replies tag b)
hits_append tag a b = ap text (map-append (λ (hit : Hit). reply.Hit tag hit.dist hit.key) a b)
    ∙ text_append (hit_replies tag a) (hit_replies tag b)
