-- Lists with room: an entry placed, and the lists of all values dealt out to buckets.
use Rattle.std.proofs.Common.{◌≡◌, ℕ, ◌+◌, ◌-◌, ◌*◌, ◌/◌, ◌%◌, ◌^◌, ◌<◌, ◌≤◌, inl, inr, min, List, [], ◌∷◌, ◌++◌, length, take, set}
use Rattle.std.proofs.Common.{get_or, sum, replicate, sym, ap, subst, ◌∙◌, arith, All, Vec, Global, length-append}
use Rattle.std.specs.Arc.{arc_value}
use Rattle.std.specs.declared.sync.Arc.{Arc}
use Rattle.std.specs.Vec.{vec_capacity}
use Rattle.std.proofs.Math.Pow.{pow_mono}
use Rattle.std.proofs.lemmas.Nat.{pow-add}
use Rattle.std.proofs.lemmas.Bool.{cases_lt}
use Rattle.std.proofs.lemmas.List.{get_or-map, length-map, length-set, map-append, map-set, take_all}
use Rattle.std.proofs.lemmas.List.Elements.{All-replicate, All-set}
use Rattle.std.proofs.lemmas.List.FromFn.{fill_by_all, get_or-map-range_with_len, length-map-range_with_len, map-range_with_len_more}
use Rattle.std.proofs.lemmas.List.Sums.{get_or-le-sum_by}
use Rattle.std.proofs.Math.Seq.{map-set_same}
use Rattle.posting_table.specs.Kept.{AreBuckets, all_lists, buckets_of, kept_table, list_in}
use Rattle.posting_table.specs.KeptLists.{AreKeptLists, dealt_out, held_by, lists_of_rest, reserved_of, rooms_of}
use Rattle.posting_table.specs.Reserved.{HasSpace, Reserved, entry_placed}
use Rattle.posting_table.specs.Tables.{Table, posting_list, with_posting}
use Rattle.posting_table.proofs.BucketLemmas.{items_of, map_changed, map_kept, seen_at}

-- what a list has room for
abbrev pub room_of : Vec (ℕ × List ℕ) Global → ℕ
room_of list = vec_capacity list

-- ---- lists dealt out to buckets

-- the copy of one list more
pub list_dealt : (all done : List (Vec (ℕ × List ℕ) Global)) (rest round at : ℕ) (own copied : Vec (ℕ × List ℕ) Global) → at ≡ round * 256 + rest
    → at < length all → own ≡ get_or all at own → copied.items ≡ own.items → held_by done ≡ lists_of_rest (held_by all) rest round
    → held_by (done ++ copied ∷ []) ≡ lists_of_rest (held_by all) rest (round + 1)
list_dealt all done rest round at own copied place below is same before =
    let item : copied.items ≡ get_or (held_by all) (round * 256 + rest) [] =
    same ∙ ap items_of is ∙ sym (get_or-map items_of all at own [] below) ∙ ap (λ (n : ℕ). get_or (held_by all) n []) place in
    map-append items_of done (copied ∷ [])
    ∙ ap (λ (lists : List (List (ℕ × List ℕ))). lists ++ copied.items ∷ []) before
    ∙ ap (λ (list : List (ℕ × List ℕ)). lists_of_rest (held_by all) rest round ++ list ∷ []) item
    ∙ sym (map-range_with_len_more (λ each. get_or (held_by all) (each * 256 + rest) []) 0 round round (omega arith))

-- the bucket of one rest more
pub bucket_dealt : (lists : List (List (ℕ × List ℕ))) (done : List (Arc (List (List (ℕ × List ℕ))) Global)) (rest number : ℕ)
    (bucket : List (List (ℕ × List ℕ))) (shared : Arc (List (List (ℕ × List ℕ))) Global) → arc_value shared ≡ bucket
    → bucket ≡ lists_of_rest lists rest number
    → buckets_of done ≡ dealt_out lists rest number → buckets_of (done ++ shared ∷ []) ≡ dealt_out lists (rest + 1) number
bucket_dealt lists done rest number bucket shared holds is before =
    map-append (λ one. arc_value one) done (shared ∷ [])
    ∙ ap (λ (front : List (List (List (ℕ × List ℕ)))). front ++ arc_value shared ∷ []) before
    ∙ ap (λ (one : List (List (ℕ × List ℕ))). dealt_out lists rest number ++ one ∷ []) (holds ∙ is)
    ∙ sym (map-range_with_len_more (λ each. lists_of_rest lists each number) 0 rest rest (omega arith))

module _ (width : ℕ) (all : List (Vec (ℕ × List ℕ) Global)) (kept : AreKeptLists width all) where
  abbrev pub in_each : ℕ
  in_each = (length all + 256 - 1) / 256

  abbrev pub rests : ℕ
  rests = min (length all) 256

  -- every list of a rest is there
  pub round_there : (rest round : ℕ) → rest < rests → round < in_each → round * 256 + rest < length all
  round_there rest round low early =
      let number = kept.number in
      elim (cases_lt width 8) [
        | inl few ↦
            let narrow : width ≤ 8 = omega arith in
            let most : 2 ^ width ≤ 2 ^ 8 = pow_mono narrow in
            omega arith
        | inr many ↦
            let split : width ≡ 8 + (width - 8) = omega arith in
            let whole : 2 ^ width ≡ 2 ^ 8 * 2 ^ (width - 8) = ap (λ (n : ℕ). 2 ^ n) split ∙ pow-add 2 8 (width - 8) in
            omega arith
      ]

  list_found : (value : ℕ) → value < 2 ^ width → list_in (dealt_out (held_by all) rests in_each) value ≡ get_or (held_by all) value []
  list_found value below =
      let number = kept.number in
      let whole : value / 256 * 256 + value % 256 ≡ value = omega arith in
      ap (λ (bucket : List (List (ℕ × List ℕ))). get_or bucket (value / 256) [])
      (get_or-map-range_with_len (λ rest. lists_of_rest (held_by all) rest in_each) 0 rests (value % 256) (value % 256) [] (omega arith) (omega arith))
      ∙ get_or-map-range_with_len (λ round. get_or (held_by all) (round * 256 + value % 256) []) 0 in_each (value / 256) (value / 256) []
      (omega arith) (omega arith)
      ∙ ap (λ (at : ℕ). get_or (held_by all) at []) whole

  -- the buckets have the lists of all values
  pub all_dealt : all_lists (dealt_out (held_by all) rests in_each) (2 ^ width) ≡ held_by all
  all_dealt =
      sym (fill_by_all (list_in (dealt_out (held_by all) rests in_each)) (held_by all) (2 ^ width) []
      (length-map all items_of ∙ kept.number) (λ value below. sym (list_found value below)))

  -- and are kept
  pub kept_dealt : AreBuckets width (dealt_out (held_by all) rests in_each)
  kept_dealt =
      let number = kept.number in
      record {
        some = kept.some;
        narrow = kept.narrow;
        number = length-map-range_with_len (λ rest. lists_of_rest (held_by all) rest in_each) 0 rests ∙ omega arith;
        each = in_each;
        enough = omega arith;
        sized = λ k d below.
            let long = length-map-range_with_len (λ rest. lists_of_rest (held_by all) rest in_each) 0 rests in
            ap length (get_or-map-range_with_len (λ rest. lists_of_rest (held_by all) rest in_each) 0 rests k k d (omega arith) (omega arith))
            ∙ length-map-range_with_len (λ round. get_or (held_by all) (round * 256 + k) []) 0 in_each;
        short = subst (λ (lists : List (List (ℕ × List ℕ))). All (λ list. length list ≤ 1048576) lists) (sym all_dealt) kept.short;
      }

  -- whatever the buckets of a table are that are these
  module _ (shared : List (Arc (List (List (ℕ × List ℕ))) Global)) (count : ℕ) (made : buckets_of shared ≡ dealt_out (held_by all) count in_each)
      (end : count ≡ rests) where
    whole_made : buckets_of shared ≡ dealt_out (held_by all) rests in_each
    whole_made = made ∙ ap (λ (n : ℕ). dealt_out (held_by all) n in_each) end

    pub kept_made : AreBuckets width (buckets_of shared)
    kept_made = subst (λ (buckets : List (List (List (ℕ × List ℕ)))). AreBuckets width buckets) (sym whole_made) kept_dealt

    pub table_made : kept_table width shared ≡ (reserved_of width all).table
    table_made = ap (λ (lists : List (List (ℕ × List ℕ))). let t : Table = record { width = width; lists = lists } in t)
        (ap (λ (buckets : List (List (List (ℕ × List ℕ)))). all_lists buckets (2 ^ width)) whole_made ∙ all_dealt)

-- ---- an entry placed

module _ (width : ℕ) (lists : List (Vec (ℕ × List ℕ) Global)) (reserved : Reserved) (value key : ℕ) (kept : AreKeptLists width lists)
    (seen : reserved_of width lists ≡ reserved) (has : HasSpace reserved value key) (own new : Vec (ℕ × List ℕ) Global) (is : own ≡ get_or lists value own)
    (entry : ℕ × List ℕ) (pushed : new.items ≡ own.items ++ entry ∷ []) (same_room : vec_capacity new ≡ vec_capacity own) where
  held_seen : held_by lists ≡ reserved.table.lists
  held_seen = ap (λ (r : Reserved). r.table.lists) seen

  rooms_seen : rooms_of lists ≡ reserved.room
  rooms_seen = ap (λ (r : Reserved). r.room) seen

  width_seen : width ≡ reserved.table.width
  width_seen = ap (λ (r : Reserved). r.table.width) seen

  -- the list of the value is there
  pub there : value < length lists
  there =
      let wide : 2 ^ width ≡ 2 ^ reserved.table.width = ap (λ (n : ℕ). 2 ^ n) width_seen in
      omega (arith, has.in_width, kept.number, wide)

  in_table : value < length reserved.table.lists
  in_table = omega (arith, there, length-map lists items_of, ap length held_seen)

  own_list : own.items ≡ posting_list reserved.table value
  own_list = sym (seen_at items_of lists reserved.table.lists value own held_seen is [] in_table)

  own_room : vec_capacity own ≡ get_or reserved.room value 0
  own_room =
      let long = ap length rooms_seen in
      let number = length-map lists room_of in
      sym (seen_at room_of lists reserved.room value own rooms_seen is 0 (omega (arith, there, long, number)))

  -- there is room for one entry more
  pub has_space : length own.items < vec_capacity own
  has_space = omega (arith, has.space, ap length own_list, own_room)

  few_there : vec_capacity own ≤ 1048576
  few_there =
      let number = length-map lists room_of in
      let below : value < length (rooms_of lists) = omega (arith, there, number) in
      let few = kept.few value 0 below in
      let same : get_or (rooms_of lists) value 0 ≡ vec_capacity own = get_or-map room_of lists value own 0 there ∙ ap room_of (sym is) in
      omega (arith, few, same)

  pub placed_kept : AreKeptLists width (set lists value new)
  placed_kept = record {
    some = kept.some;
    narrow = kept.narrow;
    number = length-set lists value new ∙ kept.number;
    short =
        subst (λ (held : List (List (ℕ × List ℕ))). All (λ list. length list ≤ 1048576) held) (sym (map-set items_of lists value new))
        (All-set (λ list. length list ≤ 1048576) (held_by lists) value new.items
        (omega (arith, ap length pushed, length-append own.items (entry ∷ []), has_space, few_there)) kept.short);
    few =
        subst (λ (rooms : List ℕ). All (λ room. room ≤ 1048576) rooms)
        (sym (map-set_same room_of lists value new own (same_room ∙ ap room_of is))) kept.few;
  }

  pub placed_seen : reserved_of width (set lists value new) ≡ entry_placed reserved value entry
  placed_seen =
      let held : held_by (set lists value new) ≡ (with_posting reserved.table value entry).lists =
      map_changed items_of lists reserved.table.lists value own held_seen is new [] (λ list. list ++ entry ∷ []) in_table pushed in
      let rooms : rooms_of (set lists value new) ≡ reserved.room = map_kept room_of lists reserved.room value own rooms_seen is new same_room in
      ap (λ (number : ℕ). let r : Reserved = record {
        table = record { width = number; lists = held_by (set lists value new) };
        room = rooms_of
            (set lists value new);
      } in r) width_seen
      ∙ ap (λ (one : List (List (ℕ × List ℕ))). let r : Reserved = record {
        table = record { width = reserved.table.width; lists = one };
        room =
            rooms_of (set lists value new);
      } in r) held
      ∙ ap (λ (one : List ℕ). let r : Reserved = record { table = with_posting reserved.table value entry; room = one } in r) rooms

-- ---- lists with room, and no entry

-- so many empty lists with room are kept
pub kept_reserved : (width : ℕ) (sizes : List ℕ) (lists : List (Vec (ℕ × List ℕ) Global)) (count : ℕ) → 1 ≤ width → width ≤ 12 → length sizes ≡ 2 ^ width
    → sum sizes ≤ 1048576 → count ≡ length sizes → held_by lists ≡ replicate count [] → rooms_of lists ≡ take count sizes → AreKeptLists width lists
kept_reserved width sizes lists count some narrow number few all empty rooms =
    let same : rooms_of lists ≡ sizes = rooms ∙ take_all count sizes (omega arith) in
    let long = length-map lists room_of in
    record {
      some = some;
      narrow = narrow;
      number = omega (arith, long, ap length same, number);
      short =
          subst (λ (held : List (List (ℕ × List ℕ))). All (λ list. length list ≤ 1048576) held) (sym empty)
          (All-replicate (λ list. length list ≤ 1048576) count [] (omega arith));
      few = subst (λ (room : List ℕ). All (λ one. one ≤ 1048576) room) (sym same) (λ k d below.
          let part = get_or-le-sum_by (λ n. n) sizes k d below in
          omega arith);
    }
