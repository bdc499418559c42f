-- What a store in flat words keeps to holds after each change.
use Rattle.std.proofs.Common.{◌≡◌, ◌≢◌, ℕ, suc, ◌+◌, ◌-◌, ◌*◌, ◌/◌, ◌%◌, ◌<◌, ◌≤◌, ◌^◌, Bool, true, false, List, [], ◌∷◌, ◌++◌, length, length-append, length-set, set, get_or, slice_get, slice_set, Some, None, inl, inr, nat_eq, refl, sym, ap, ◌∙◌, subst, arith}
use Rattle.std.specs.Prelude.{replicate, if◌then◌else◌}
use Rattle.std.proofs.lemmas.Bool.{cases_eq}
use Rattle.std.proofs.lemmas.Option.{none-some}
use Rattle.std.proofs.lemmas.Bool.Decides.{nat_tests}
use Rattle.fip_language.specs.Store.{Cell}
use Rattle.cell_store.specs.Cells.{Cells, cell_at, size_of, size_in, number, count_live, count_free}
use Rattle.cell_store.specs.Flat.{header, size, parse, flags, Laid, IsCounted, over_at}
use Rattle.cell_store.specs.Free.{Stack, IsFree, AreFree, KeepsPlaces, stack_at}
use Rattle.cell_store.specs.Kept.{IsKept}
use Rattle.cell_store.specs.Marks.{IsMarked, is_marked}
use Rattle.cell_store.proofs.Parsed.{known, read_or, overwrites, overwritten, releases, appended, number_set, get_set, length_over_at, length_flags, length_parse}
use Rattle.cell_store.proofs.Marked.{marked_set, marked_append, marked_same}
use Rattle.cell_store.proofs.Freed.{freed, freed_other, taken, taken_other, rewritten, put_after, same_places, top_named, live_taken, one_size}

-- what is kept beside the words
record IsBeside (cs : Cells) (rs : List Bool) (marks counts : List ℕ) (stacks : List Stack) (n : ℕ) : Type 0 where
  pub marked : IsMarked cs marks
  pub counted : IsCounted cs rs counts
  pub free : AreFree cs rs stacks
  pub made : n ≡ number cs

kept_from : (ws ms ns : List ℕ) (ss : List Stack) (n r l : ℕ) (cs : Cells) (rs : List Bool) → parse 0 ws ≡ cs → flags 0 ws ≡ rs → Laid 0 ws → IsBeside cs rs ms ns ss n → n ≤ r → length ws + l ≤ 16777216 → IsKept ws ms ns ss n r l
kept_from ws ms ns ss n r l cs rs e f laid b room few =
    let there = subst (λ cs. IsBeside cs (flags 0 ws) ms ns ss n) (sym e) (subst (λ rs. IsBeside cs rs ms ns ss n) (sym f) b) in
    record {
      laid = laid;
      marked = there.marked;
      counted = there.counted;
      free = there.free;
      made = there.made;
      room = room;
      few = few;
    }

pub kept_overwritten : (ws ms ns : List ℕ) (ss : List Stack) (n r l p tag v : ℕ) (fs : List ℕ) → IsKept ws ms ns ss n r l → cell_at (parse 0 ws) p ≢ None → length fs ≡ size_in (cell_at (parse 0 ws) p) → v ≡ get_or ws p v → tag < 2 ^ 32 → IsKept (over_at ws p ((64 * tag + 2 * length fs + v % 2) ∷ fs)) ms ns ss n r l
kept_overwritten ws ms ns ss n r l p tag v fs k there same e small =
    let o = overwrites ws p tag v fs ns k.laid there same k.counted e small in
    let x = known 0 ws p k.laid there in
    let d : Cell = record { tag = tag; fields = fs } in
    let fit : length fs ≡ size_of x.cell = same ∙ ap size_in x.is in
    kept_from (over_at ws p ((64 * tag + 2 * length fs + v % 2) ∷ fs)) ms ns ss n r l (slice_set (parse 0 ws) p (Some d)) (flags 0 ws) o.cells o.released o.done.1.laid
    (record {
      marked = marked_set (parse 0 ws) p x.cell d ms x.is k.marked;
      counted = o.kept;
      free = λ j few. rewritten (parse 0 ws) (flags 0 ws) j p x.cell d (stack_at ss j) (k.free j few) x.is fit;
      made = k.made ∙ sym o.number;
    })
    k.room
    (let a = length_over_at ws p ((64 * tag + 2 * length fs + v % 2) ∷ fs) in let f = k.few in omega (arith, a, f))

pub kept_released : (ws ms ns : List ℕ) (ss ts : List Stack) (n r l p v : ℕ) → IsKept ws ms ns ss n r l → cell_at (parse 0 ws) p ≢ None → slice_get (flags 0 ws) p ≡ Some false → v ≡ get_or ws p v → (stack_at ts (size v)).places ≡ (stack_at ss (size v)).places ++ p ∷ [] → (stack_at ss (size v)).room ≤ (stack_at ts (size v)).room → ((j : ℕ) → j ≢ size v → stack_at ts j ≡ stack_at ss j) → IsKept (slice_set ws p (v + 1)) ms (slice_set ns (size v) (get_or ns (size v) 0 - 1)) ts n r l
kept_released ws ms ns ss ts n r l p v k there live e places room others =
    let x = known 0 ws p k.laid there in
    let word = read_or ws p v x.found.head v x.found.read e in
    let long : size v ≡ size_of x.cell = ap size word ∙ x.found.long in
    let d = releases ws p v ns k.laid there live k.counted e in
    kept_from (slice_set ws p (v + 1)) ms (slice_set ns (size v) (get_or ns (size v) 0 - 1)) ts n r l (parse 0 ws) (slice_set (flags 0 ws) p true) d.done.cells d.done.released d.done.laid
    (record {
      marked = k.marked;
      counted = d.kept;
      free = λ j few. elim (cases_eq j (size v)) [
        | inl same ↦ subst (λ i. IsFree (parse 0 ws) (slice_set (flags 0 ws) p true) i (stack_at ts i)) (sym same) (
            freed (parse 0 ws) (flags 0 ws) (size v) p x.cell (stack_at ss (size v)) (stack_at ts (size v)) (k.free (size v) (let s = same in omega (arith, few, s))) x.is live long places room)
        | inr other ↦ subst (IsFree (parse 0 ws) (slice_set (flags 0 ws) p true) j) (sym (others j other)) (
            freed_other (parse 0 ws) (flags 0 ws) j p x.cell (stack_at ss j) (k.free j few) x.is live (λ z. other (z ∙ sym long)))
      ];
      made = k.made;
    })
    k.room
    (let a = length-set ws p (v + 1) in let f = k.few in omega (arith, a, f))

-- room for one more on the stack of each released cell's size
pub kept_put : (ws ms ns : List ℕ) (ss : List Stack) (n r l p v : ℕ) → IsKept ws ms ns ss n r l → cell_at (parse 0 ws) p ≢ None → slice_get (flags 0 ws) p ≡ Some false → v ≡ get_or ws p v → length (stack_at ss (size v)).places < (stack_at ss (size v)).room
kept_put ws ms ns ss n r l p v k there live e =
    let x = known 0 ws p k.laid there in
    let word = read_or ws p v x.found.head v x.found.read e in
    let long : size v ≡ size_of x.cell = ap size word ∙ x.found.long in
    let few : size v ≤ 16 = (let a = x.found.few in let b = x.found.long in omega (arith, long, a, b)) in
    let d = releases ws p v ns k.laid there live k.counted e in
    let f = k.free (size v) few in
    let total = f.total in
    let room = f.room in
    let some = d.some in
    let exact = k.counted.exact (size v) few in
    omega (arith, total, room, some, exact)

-- what taking a released cell again gives
pub record Retakes (ws ns : List ℕ) (p tag : ℕ) (fs : List ℕ) (cell : Cell) : Type 0 where
  pub is : cell_at (parse 0 ws) p ≡ Some cell
  pub size : size_of cell ≡ length fs
  pub released : slice_get (flags 0 ws) p ≡ Some true
  pub room : suc p + length fs ≤ length ws
  pub cells : parse 0 (over_at ws p ((64 * tag + 2 * length fs) ∷ fs)) ≡ slice_set (parse 0 ws) p (Some (record { tag = tag; fields = fs }))
  pub flags : flags 0 (over_at ws p ((64 * tag + 2 * length fs) ∷ fs)) ≡ slice_set (flags 0 ws) p false
  pub laid : Laid 0 (over_at ws p ((64 * tag + 2 * length fs) ∷ fs))

pub retakes : (ws ms ns : List ℕ) (ss : List Stack) (n r l p tag : ℕ) (fs ps : List ℕ) → IsKept ws ms ns ss n r l → length fs ≤ 16 → tag < 2 ^ 32 → (stack_at ss (length fs)).places ≡ ps ++ p ∷ [] → (c : Cell) × Retakes ws ns p tag fs c
retakes ws ms ns ss n r l p tag fs ps k few small e =
    let t = top_named (length fs) (parse 0 ws) (flags 0 ws) (stack_at ss (length fs)) ps p (k.free (length fs) few) e in
    let x = known 0 ws p k.laid (λ z. none-some t.cell (sym z ∙ t.is)) in
    let new : ℕ = 64 * tag + 2 * length fs in
    let half : new / 2 ≡ 32 * tag + length fs = omega arith in
    let size_is : size new ≡ length fs = ap (λ m. m % 32) half ∙ (let z : (32 * tag + length fs) % 32 ≡ length fs = omega (arith, few) in z) in
    let tag_is : new / 64 ≡ tag = omega (arith, few) in
    let even : nat_eq (new % 2) 1 ≡ false = (let z : new % 2 ≡ 0 = omega arith in grind (arith, nat_tests)) in
    let o = overwritten 0 ws p new fs t.cell k.laid t.is (size_is ∙ sym t.size) (sym t.size) (omega (arith, few, small)) in (
      t.cell,
      record {
        is = t.is;
        size = t.size;
        released = t.released;
        room = (let a = x.found.within in let b = x.found.long in let d = ap (λ o. size_in o) (sym x.is ∙ t.is) in let s = t.size in omega (arith, a, b, d, s));
        cells = o.cells ∙ ap (λ z. slice_set (parse 0 ws) p (Some (record { tag = z; fields = fs }))) tag_is;
        flags = o.released ∙ ap (λ b. slice_set (flags 0 ws) p b) even;
        laid = o.laid;
      },
    )

pub kept_retaken : (ws ms ns : List ℕ) (ss ts : List Stack) (n r l p tag : ℕ) (fs : List ℕ) → IsKept ws ms ns ss n r l → length fs ≤ 16 → tag < 2 ^ 32 → (stack_at ss (length fs)).places ≡ (stack_at ts (length fs)).places ++ p ∷ [] → (stack_at ts (length fs)).room ≡ (stack_at ss (length fs)).room → ((j : ℕ) → j ≢ length fs → stack_at ts j ≡ stack_at ss j) → IsKept (over_at ws p ((64 * tag + 2 * length fs) ∷ fs)) ms (set ns (length fs) (get_or ns (length fs) 0 + 1)) ts n r l
kept_retaken ws ms ns ss ts n r l p tag fs k few small e room others =
    let z = retakes ws ms ns ss n r l p tag fs (stack_at ts (length fs)).places k few small e in
    let c = z.0 in
    let t = z.1 in
    let d : Cell = record { tag = tag; fields = fs } in
    kept_from (over_at ws p ((64 * tag + 2 * length fs) ∷ fs)) ms (set ns (length fs) (get_or ns (length fs) 0 + 1)) ts n r l (slice_set (parse 0 ws) p (Some d)) (slice_set (flags 0 ws) p false) t.cells t.flags t.laid
    (record {
      marked = marked_set (parse 0 ws) p c d ms t.is k.marked;
      counted = record {
        wide = length-set ns (length fs) _ ∙ k.counted.wide;
        exact = λ j s. grind (arith, k.counted.wide, few, get_set ns (length fs) (get_or ns (length fs) 0 + 1) j, k.counted.exact j s, live_taken j (parse 0 ws) (flags 0 ws) p c d t.is (sym t.size) t.released, t.size, nat_tests);
      };
      free = λ j less. elim (cases_eq j (length fs)) [
        | inl same ↦ subst (λ i. IsFree (slice_set (parse 0 ws) p (Some d)) (slice_set (flags 0 ws) p false) i (stack_at ts i)) (sym same) (
            taken (parse 0 ws) (flags 0 ws) (length fs) p c d (stack_at ss (length fs)) (stack_at ts (length fs)) (k.free (length fs) few) t.is (sym t.size) t.released (sym t.size) e room)
        | inr other ↦ subst (IsFree (slice_set (parse 0 ws) p (Some d)) (slice_set (flags 0 ws) p false) j) (sym (others j other)) (
            taken_other (parse 0 ws) (flags 0 ws) j p c d (stack_at ss j) (k.free j less) t.is (sym t.size) t.released (λ y. other (y ∙ t.size)))
      ];
      made = k.made ∙ sym (number_set (parse 0 ws) p c d t.is);
    })
    k.room
    (let a = length_over_at ws p ((64 * tag + 2 * length fs) ∷ fs) in let f = k.few in omega (arith, a, f))

-- more bits and more room
pub kept_roomier : (ws ms us ns : List ℕ) (ss ts : List Stack) (n r s l : ℕ) → IsKept ws ms ns ss n r l → length ms ≤ length us → ((q : ℕ) → is_marked us q ≡ is_marked ms q) → KeepsPlaces ss ts → r ≤ s → IsKept ws us ns ts n s l
kept_roomier ws ms us ns ss ts n r s l k more same places room = record {
  laid = k.laid;
  marked = marked_same (parse 0 ws) ms us k.marked more same;
  counted = k.counted;
  free = λ j few. same_places (parse 0 ws) (flags 0 ws) j (stack_at ss j) (stack_at ts j) (k.free j few) (places.places j) (places.room j);
  made = k.made;
  room = (let a = k.room in omega (arith, a, room));
  few = k.few;
}

-- a cell after the others, with bits and room for it
pub kept_appended : (ws ms us ns : List ℕ) (ss ts : List Stack) (n r s l m tag : ℕ) (fs : List ℕ) → IsKept ws ms ns ss n r l → 0 < length fs → length fs ≤ 16 → tag < 2 ^ 32 → length ws + length fs + 1 ≤ 64 * length us → ((q : ℕ) → is_marked us q ≡ (if nat_eq q (length ws) then true else is_marked ms q)) → KeepsPlaces ss ts → length (stack_at ts (length fs)).places + (get_or ns (length fs) 0 + 1) ≤ (stack_at ts (length fs)).room → n + 1 ≤ s → m + (length fs + 1) ≡ l → IsKept (ws ++ header tag (length fs) ∷ fs) us (set ns (length fs) (get_or ns (length fs) 0 + 1)) ts (n + 1) s m
kept_appended ws ms us ns ss ts n r s l m tag fs k some few small wide marks places more room left =
    let a = appended ws tag fs ns k.laid k.counted some few small in
    let c : Cell = record { tag = tag; fields = fs } in
    let long = length_parse 0 ws in
    let flat = length_flags 0 ws in
    kept_from (ws ++ header tag (length fs) ∷ fs) us (set ns (length fs) (get_or ns (length fs) 0 + 1)) ts (n + 1) s m
    (parse 0 (ws ++ header tag (length fs) ∷ fs)) (flags 0 (ws ++ header tag (length fs) ∷ fs)) refl refl a.laid
    (record {
      marked = subst (λ cs. IsMarked cs us) (sym a.cells) (marked_append (parse 0 ws) c (length fs) ms us k.marked (omega (arith, long, wide)) (λ q. marks q ∙ ap (λ i. if nat_eq q i then true else is_marked ms q) (sym long)));
      counted = a.counted;
      free = λ j less. subst (λ cs. IsFree cs (flags 0 (ws ++ header tag (length fs) ∷ fs)) j (stack_at ts j)) (sym a.cells) (
          subst (λ rs. IsFree (parse 0 ws ++ Some c ∷ replicate (length fs) None) rs j (stack_at ts j)) (sym a.released) (
          put_after (parse 0 ws) (flags 0 ws) j c (stack_at ss j) (stack_at ts j) (flat ∙ sym long) (k.free j less) (places.places j) (
          let total = (k.free j less).total in
          let old = (k.free j less).room in
          let same = ap length (places.places j) in
          let grown = places.room j in
          let exact = k.counted.exact j less in
          elim (cases_eq j (length fs)) [
            | inl e ↦ subst (λ i. count_live i (parse 0 ws) (flags 0 ws) + count_free i (parse 0 ws) (flags 0 ws) + one_size i c ≤ (stack_at ts i).room) (sym e) (
                let total = (k.free (length fs) few).total in
                let same = ap length (places.places (length fs)) in
                let exact = k.counted.exact (length fs) few in
                let one : one_size (length fs) c ≡ 1 = grind (arith, nat_tests) in
                omega (arith, total, same, exact, one, more))
            | inr o ↦ (let none : one_size j c ≡ 0 = grind (arith, nat_tests) in omega (arith, none, old, grown))
          ])));
      made = (let z = a.number in let y = k.made in omega (arith, z, y));
    })
    room
    (let z = length-append ws (header tag (length fs) ∷ fs) in let f = k.few in omega (arith, z, f, left))
