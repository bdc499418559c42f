-- Reading and writing words changes the cells as it should.
use Rattle.std.proofs.Common.{◌≡◌, ◌≢◌, ℕ, zero, suc, ◌+◌, ◌-◌, ◌*◌, ◌/◌, ◌%◌, ◌<◌, ◌≤◌, ◌^◌, Bool, true, false, List, [], ◌∷◌, ◌++◌, length, length-append, take, set, get_or, slice_get, slice_set, Some, None, Option, inl, inr, nat_eq, refl, sym, ap, ◌∙◌, subst, arith, cond}
use Rattle.std.specs.Prelude.{replicate, option_map, IfSome, IfNone}
use Rattle.std.proofs.lemmas.Option.{none-some, same_Some, get_or_from_slice_get}
use Rattle.std.proofs.lemmas.Bool.{cases_lt}
use Rattle.std.proofs.lemmas.Bool.Decides.{nat_tests}
use Rattle.std.proofs.lemmas.Grind.{get_or-set_at}
use Rattle.std.proofs.lemmas.List.{get_or-set_other}
use Rattle.fip_language.specs.Store.{Cell}
use Rattle.cell_store.specs.Cells.{Cells, cell_at, size_of, size_in, sizes, number, one_live, count_live, one_free, count_free}
use Rattle.cell_store.specs.Flat.{header, size, parse, flags, Laid, IsCounted, over, over_at}
use Rattle.fip_language.proofs.Facts.{slice_set_length as length_set, take_front, take_length as length_take}

-- what is known of the words of a cell
pub record Found (n : ℕ) (ws : List ℕ) (p : ℕ) (c : Cell) : Type 0 where
  pub past : n ≤ p
  pub head : ℕ
  pub read : slice_get ws p ≡ Some head
  pub tag : head / 64 ≡ c.tag
  pub long : size head ≡ size_of c
  pub some : 0 < size head
  pub few : size head ≤ 16
  pub small : head < 2 ^ 38
  pub within : p + 1 + size head ≤ length ws
  pub fields : (i : ℕ) → i < size head → slice_get c.fields i ≡ slice_get ws (p + 1 + i)
  pub flag : slice_get (flags n ws) p ≡ Some (nat_eq (head % 2) 1)

get_take : (k : ℕ) (ws : List ℕ) (i : ℕ) → i < k → slice_get (take k ws) i ≡ slice_get ws i
get_take zero ws i h = absurd (omega arith)
get_take (suc k) [] i h = refl
get_take (suc k) (w ∷ ws) zero h = refl
get_take (suc k) (w ∷ ws) (suc i) h = get_take k ws i (omega arith)

shifted : (w : ℕ) (ws : List ℕ) (p i : ℕ) → slice_get ws (p + 1 + i) ≡ slice_get (w ∷ ws) (suc p + 1 + i)
shifted w ws p i = ap (λ k. slice_get (w ∷ ws) k) (let e : suc (p + 1 + i) ≡ suc p + 1 + i = omega arith in e)

pub found : (n : ℕ) (ws : List ℕ) (p : ℕ) (c : Cell) → Laid n ws → cell_at (parse n ws) p ≡ Some c → Found n ws p c
found n [] p c l e = absurd (none-some c e)
found zero (h ∷ ws) zero c l e =
    let is : record { tag = h / 64; fields = take (size h) ws } ≡ c = same_Some (record { tag = h / 64; fields = take (size h) ws }) c e in
    let long = length_take (size h) ws l.3 in
    record {
      past = omega arith;
      head = h;
      read = refl;
      tag = ap (λ (c : Cell). c.tag) is;
      long = sym long ∙ ap size_of is;
      some = l.0;
      few = l.1;
      small = l.2;
      within = let k = l.3 in omega (arith, k);
      fields = λ i lt. ap (λ (c : Cell). slice_get c.fields i) (sym is) ∙ get_take (size h) ws i lt ∙ ap (λ k. slice_get (h ∷ ws) k) (let e : suc i ≡ 0 + 1 + i = omega arith in e);
      flag = refl;
    }
found zero (h ∷ ws) (suc p) c l e =
    let f = found (size h) ws p c l.4 e in
    record {
      past = omega arith;
      head = f.head;
      read = f.read;
      tag = f.tag;
      long = f.long;
      some = f.some;
      few = f.few;
      small = f.small;
      within = let k = f.within in omega (arith, k);
      fields = λ i lt. f.fields i lt ∙ shifted h ws p i;
      flag = f.flag;
    }
found (suc n) (w ∷ ws) zero c l e = absurd (none-some c e)
found (suc n) (w ∷ ws) (suc p) c l e =
    let f = found n ws p c l e in
    record {
      past = let k = f.past in omega (arith, k);
      head = f.head;
      read = f.read;
      tag = f.tag;
      long = f.long;
      some = f.some;
      few = f.few;
      small = f.small;
      within = let k = f.within in omega (arith, k);
      fields = λ i lt. f.fields i lt ∙ shifted w ws p i;
      flag = f.flag;
    }

-- the words of the cell before do not count
parse_over : (k : ℕ) (ws fs : List ℕ) → length fs ≤ k → parse k (over ws fs) ≡ parse k ws
parse_over k ws [] h = refl
parse_over k [] (f ∷ fs) h = refl
parse_over zero (w ∷ ws) (f ∷ fs) h = absurd (omega arith)
parse_over (suc k) (w ∷ ws) (f ∷ fs) h = ap (λ cs. None ∷ cs) (parse_over k ws fs (omega arith))

flags_over : (k : ℕ) (ws fs : List ℕ) → length fs ≤ k → flags k (over ws fs) ≡ flags k ws
flags_over k ws [] h = refl
flags_over k [] (f ∷ fs) h = refl
flags_over zero (w ∷ ws) (f ∷ fs) h = absurd (omega arith)
flags_over (suc k) (w ∷ ws) (f ∷ fs) h = ap (λ cs. false ∷ cs) (flags_over k ws fs (omega arith))

laid_over : (k : ℕ) (ws fs : List ℕ) → length fs ≤ k → Laid k ws → Laid k (over ws fs)
laid_over k ws [] h l = l
laid_over k [] (f ∷ fs) h l = l
laid_over zero (w ∷ ws) (f ∷ fs) h l = absurd (omega arith)
laid_over (suc k) (w ∷ ws) (f ∷ fs) h l = laid_over k ws fs (omega arith) l

take_over : (k : ℕ) (ws fs : List ℕ) → length fs ≡ k → k ≤ length ws → take k (over ws fs) ≡ fs
take_over zero ws [] e h = refl
take_over zero ws (f ∷ fs) e h = absurd (omega arith)
take_over (suc k) ws [] e h = absurd (omega arith)
take_over (suc k) [] (f ∷ fs) e h = absurd (omega arith)
take_over (suc k) (w ∷ ws) (f ∷ fs) e h = ap (λ xs. f ∷ xs) (take_over k ws fs (omega arith) (omega arith))

pub length_over : (ws fs : List ℕ) → length (over ws fs) ≡ length ws
length_over ws [] = refl
length_over [] (f ∷ fs) = refl
length_over (w ∷ ws) (f ∷ fs) = ap suc (length_over ws fs)

pub length_over_at : (ws : List ℕ) (p : ℕ) (fs : List ℕ) → length (over_at ws p fs) ≡ length ws
length_over_at ws zero fs = length_over ws fs
length_over_at [] (suc p) fs = refl
length_over_at (w ∷ ws) (suc p) fs = ap suc (length_over_at ws p fs)

take_over_at : (k : ℕ) (ws : List ℕ) (p : ℕ) (fs : List ℕ) → k ≤ p → take k (over_at ws p fs) ≡ take k ws
take_over_at zero ws p fs h = refl
take_over_at (suc k) ws zero fs h = absurd (omega arith)
take_over_at (suc k) [] (suc p) fs h = refl
take_over_at (suc k) (w ∷ ws) (suc p) fs h = ap (λ xs. w ∷ xs) (take_over_at k ws p fs (omega arith))

-- a cell that is overwritten
pub record Overwritten (n : ℕ) (ws : List ℕ) (p h : ℕ) (fs : List ℕ) (c : Cell) : Type 0 where
  pub cells : parse n (over_at ws p (h ∷ fs)) ≡ slice_set (parse n ws) p (Some (record { tag = h / 64; fields = fs }))
  pub released : flags n (over_at ws p (h ∷ fs)) ≡ slice_set (flags n ws) p (nat_eq (h % 2) 1)
  pub laid : Laid n (over_at ws p (h ∷ fs))

pub overwritten : (n : ℕ) (ws : List ℕ) (p h : ℕ) (fs : List ℕ) (c : Cell) → (l : Laid n ws) → cell_at (parse n ws) p ≡ Some c → size h ≡ size_of c → length fs ≡ size_of c → h < 2 ^ 38 → Overwritten n ws p h fs c
overwritten n [] p h fs c l e s k b = absurd (none-some c e)
overwritten zero (w ∷ ws) zero h fs c l e s k b =
    let is : record { tag = w / 64; fields = take (size w) ws } ≡ c = same_Some (record { tag = w / 64; fields = take (size w) ws }) c e in
    let long = length_take (size w) ws l.3 in
    let same : size w ≡ size h = sym long ∙ ap size_of is ∙ sym s in
    let fit : length fs ≡ size h = k ∙ sym s in
    let some = l.0 in
    let few = l.1 in
    let room = l.3 in
    record {
      cells = (λ i. Some (record { tag = h / 64; fields = take_over (size h) ws fs fit (omega (arith, same, room)) i }) ∷ parse (size h) (over ws fs)) ∙ ap (λ cs. Some (record { tag = h / 64; fields = fs }) ∷ cs) (parse_over (size h) ws fs (omega (arith, fit)) ∙ ap (λ k. parse k ws) (sym same));
      released = ap (λ cs. nat_eq (h % 2) 1 ∷ cs) (flags_over (size h) ws fs (omega (arith, fit)) ∙ ap (λ k. flags k ws) (sym same));
      laid = (omega (arith, same, some), omega (arith, same, few), b, (let over = length_over ws fs in omega (arith, same, room, over)), laid_over (size h) ws fs (omega (arith, fit)) (subst (λ k. Laid k ws) same l.4));
    }
overwritten zero (w ∷ ws) (suc p) h fs c l e s k b =
    let o = overwritten (size w) ws p h fs c l.4 e s k b in
    let f = found (size w) ws p c l.4 e in
    let head = take_over_at (size w) ws p (h ∷ fs) f.past in
    record {
      cells = (λ i. Some (record { tag = w / 64; fields = head i }) ∷ o.cells i);
      released = ap (λ cs. nat_eq (w % 2) 1 ∷ cs) o.released;
      laid = (l.0, l.1, l.2, (let room = l.3 in let over = length_over_at ws p (h ∷ fs) in omega (arith, room, over)), o.laid);
    }
overwritten (suc n) (w ∷ ws) zero h fs c l e s k b = absurd (none-some c e)
overwritten (suc n) (w ∷ ws) (suc p) h fs c l e s k b =
    let o = overwritten n ws p h fs c l e s k b in
    record {
      cells = ap (λ cs. None ∷ cs) o.cells;
      released = ap (λ cs. false ∷ cs) o.released;
      laid = o.laid;
    }

-- a flag that is set to what it is
pub flag_same : (rs : List Bool) (p : ℕ) (r : Bool) → slice_get rs p ≡ Some r → slice_set rs p r ≡ rs
flag_same [] p r e = refl
flag_same (x ∷ rs) zero r e = ap (λ b. b ∷ rs) (sym (same_Some x r e))
flag_same (x ∷ rs) (suc p) r e = ap (λ bs. x ∷ bs) (flag_same rs p r e)

-- a cell that is released
pub record Released (n : ℕ) (ws : List ℕ) (p h : ℕ) : Type 0 where
  pub cells : parse n (slice_set ws p (h + 1)) ≡ parse n ws
  pub released : flags n (slice_set ws p (h + 1)) ≡ slice_set (flags n ws) p true
  pub laid : Laid n (slice_set ws p (h + 1))

take_set : (k : ℕ) (ws : List ℕ) (p v : ℕ) → k ≤ p → take k (slice_set ws p v) ≡ take k ws
take_set zero ws p v h = refl
take_set (suc k) [] p v h = refl
take_set (suc k) (w ∷ ws) zero v h = absurd (omega arith)
take_set (suc k) (w ∷ ws) (suc p) v h = ap (λ xs. w ∷ xs) (take_set k ws p v (omega arith))

pub release : (n : ℕ) (ws : List ℕ) (p h : ℕ) (c : Cell) → (l : Laid n ws) → cell_at (parse n ws) p ≡ Some c → slice_get ws p ≡ Some h → h % 2 ≡ 0 → Released n ws p h
release n [] p h c l e r z = absurd (none-some c e)
release zero (w ∷ ws) zero h c l e r z =
    let same : w ≡ h = same_Some w h r in
    let tag : (h + 1) / 64 ≡ w / 64 = omega (arith, same, z) in
    let half : (h + 1) / 2 ≡ w / 2 = omega (arith, same, z) in
    let long : size (h + 1) ≡ size w = ap (λ k. k % 32) half in
    let one : nat_eq ((h + 1) % 2) 1 ≡ true = let odd : (h + 1) % 2 ≡ 1 = omega (arith, z) in grind (arith, nat_tests) in
    let small = l.2 in
    record {
      cells = (λ i. Some (record { tag = tag i; fields = take (long i) ws }) ∷ parse (long i) ws);
      released = (λ i. one i ∷ flags (long i) ws);
      laid = subst (λ k. (0 < k) × (k ≤ 16) × (h + 1 < 2 ^ 38) × (k ≤ length ws) × Laid k ws) (sym long) (l.0, l.1, omega (arith, same, z, small), l.3, l.4);
    }
release zero (w ∷ ws) (suc p) h c l e r z =
    let o = release (size w) ws p h c l.4 e r z in
    let f = found (size w) ws p c l.4 e in
    let head = take_set (size w) ws p (h + 1) f.past in
    record {
      cells = (λ i. Some (record { tag = w / 64; fields = head i }) ∷ o.cells i);
      released = ap (λ cs. nat_eq (w % 2) 1 ∷ cs) o.released;
      laid = (l.0, l.1, l.2, (let room = l.3 in let set = length_set ws p (h + 1) in omega (arith, room, set)), o.laid);
    }
release (suc n) (w ∷ ws) zero h c l e r z = absurd (none-some c e)
release (suc n) (w ∷ ws) (suc p) h c l e r z =
    let o = release n ws p h c l e r z in
    record {
      cells = ap (λ cs. None ∷ cs) o.cells;
      released = ap (λ cs. false ∷ cs) o.released;
      laid = o.laid;
    }

-- what counts does not change with a cell of the same size
pub number_set : (cs : Cells) (p : ℕ) (c d : Cell) → cell_at cs p ≡ Some c → number (slice_set cs p (Some d)) ≡ number cs
number_set [] p c d e = refl
number_set (None ∷ cs) zero c d e = absurd (none-some c e)
number_set (Some b ∷ cs) zero c d e = refl
number_set (None ∷ cs) (suc p) c d e = number_set cs p c d e
number_set (Some b ∷ cs) (suc p) c d e = ap suc (number_set cs p c d e)

pub sizes_set : (cs : Cells) (p : ℕ) (c d : Cell) → cell_at cs p ≡ Some c → size_of d ≡ size_of c → sizes (slice_set cs p (Some d)) ≡ sizes cs
sizes_set [] p c d e h = refl
sizes_set (o ∷ cs) zero c d e h = ap (λ n. n ∷ sizes cs) (h ∙ ap size_in (sym e))
sizes_set (o ∷ cs) (suc p) c d e h = ap (λ ns. size_in o ∷ ns) (sizes_set cs p c d e h)

one_live_size : (k : ℕ) (c d : Cell) (r : Bool) → size_of c ≡ size_of d → one_live k c r ≡ one_live k d r
one_live_size k c d true e = refl
one_live_size k c d false e = ap (λ n. cond (nat_eq k n) 1 0) e

pub count_set : (k : ℕ) (cs : Cells) (rs : List Bool) (p : ℕ) (c d : Cell) → cell_at cs p ≡ Some c → size_of d ≡ size_of c → count_live k (slice_set cs p (Some d)) rs ≡ count_live k cs rs
count_set k [] rs p c d e h = refl
count_set k (o ∷ cs) [] zero c d e h = refl
count_set k (o ∷ cs) [] (suc p) c d e h = refl
count_set k (None ∷ cs) (r ∷ rs) zero c d e h = absurd (none-some c e)
count_set k (Some b ∷ cs) (r ∷ rs) zero c d e h = ap (λ n. n + count_live k cs rs) (one_live_size k d b r (h ∙ ap size_in (sym e)))
count_set k (None ∷ cs) (r ∷ rs) (suc p) c d e h = count_set k cs rs p c d e h
count_set k (Some b ∷ cs) (r ∷ rs) (suc p) c d e h = ap (λ n. one_live k b r + n) (count_set k cs rs p c d e h)

pub count_flag : (k : ℕ) (cs : Cells) (rs : List Bool) (p : ℕ) (c : Cell) → cell_at cs p ≡ Some c → slice_get rs p ≡ Some false → count_live k cs (slice_set rs p true) + (cond (nat_eq k (size_of c)) 1 0) ≡ count_live k cs rs
count_flag k [] rs p c e h = absurd (none-some c e)
count_flag k (o ∷ cs) [] p c e h = absurd (none-some false h)
count_flag k (None ∷ cs) (r ∷ rs) zero c e h = absurd (none-some c e)
count_flag k (Some b ∷ cs) (true ∷ rs) zero c e h = absurd cc
count_flag k (Some b ∷ cs) (false ∷ rs) zero c e h = let s : ◌≡◌ {A = ℕ} (cond (nat_eq k (size_of b)) 1 0) (cond (nat_eq k (size_of c)) 1 0) = ap {B = ℕ} (λ d. cond (nat_eq k (size_of d)) 1 0) (same_Some b c e) in omega (arith, s)
count_flag k (None ∷ cs) (r ∷ rs) (suc p) c e h = count_flag k cs rs p c e h
count_flag k (Some b ∷ cs) (r ∷ rs) (suc p) c e h = omega (arith, count_flag k cs rs p c e h)

-- words written one after another
pub over_at_none : (ws : List ℕ) (p : ℕ) → over_at ws p [] ≡ ws
over_at_none ws zero = refl
over_at_none [] (suc p) = refl
over_at_none (w ∷ ws) (suc p) = ap (λ xs. w ∷ xs) (over_at_none ws p)

over_more : (ws fs : List ℕ) (v : ℕ) → slice_set (over ws fs) (length fs) v ≡ over ws (fs ++ v ∷ [])
over_more [] [] v = refl
over_more (w ∷ ws) [] v = refl
over_more [] (f ∷ fs) v = refl
over_more (w ∷ ws) (f ∷ fs) v = ap (λ xs. f ∷ xs) (over_more ws fs v)

pub over_at_more : (ws : List ℕ) (p : ℕ) (fs : List ℕ) (v : ℕ) → slice_set (over_at ws p fs) (p + length fs) v ≡ over_at ws p (fs ++ v ∷ [])
over_at_more ws zero fs v = ap (λ k. slice_set (over ws fs) k v) (let e : 0 + length fs ≡ length fs = omega arith in e) ∙ over_more ws fs v
over_at_more [] (suc p) fs v = refl
over_at_more (w ∷ ws) (suc p) fs v = ap (λ k. slice_set (w ∷ over_at ws p fs) k v) (let e : suc p + length fs ≡ suc (p + length fs) = omega arith in e) ∙ ap (λ xs. w ∷ xs) (over_at_more ws p fs v)

pub over_head : (ws : List ℕ) (p h : ℕ) (fs : List ℕ) → over_at (slice_set ws p h) (suc p) fs ≡ over_at ws p (h ∷ fs)
over_head [] zero h fs = refl
over_head (w ∷ ws) zero h fs = refl
over_head [] (suc p) h fs = refl
over_head (w ∷ ws) (suc p) h fs = ap (λ xs. w ∷ xs) (over_head ws p h fs)

-- what is required of a caller, as a cell
pub there : (o : Option Cell) → o ≢ None → (c : Cell) × (o ≡ Some c)
there None h = absurd (h refl)
there (Some c) h = (c, refl)

pub has_field : (o : Option Cell) (i : ℕ) → i < size_in o → (c : Cell) × (o ≡ Some c)
has_field None i h = absurd (omega arith)
has_field (Some c) i h = (c, refl)

pub read_or : (ws : List ℕ) (p v w d : ℕ) → slice_get ws p ≡ Some w → v ≡ get_or ws p d → v ≡ w
read_or ws p v w d e h = h ∙ get_or_from_slice_get ws p w d e

-- two reads of one header
pub same_read : (ws : List ℕ) (p v u : ℕ) {c : Cell} → Found 0 ws p c → v ≡ get_or ws p v → u ≡ get_or ws p u → v ≡ u
same_read ws p v u f e g = read_or ws p v f.head v f.read e ∙ sym (read_or ws p u f.head u f.read g)

pub record Known (n : ℕ) (ws : List ℕ) (p : ℕ) : Type 0 where
  pub cell : Cell
  pub is : cell_at (parse n ws) p ≡ Some cell
  pub found : Found n ws p cell

pub known : (n : ℕ) (ws : List ℕ) (p : ℕ) → Laid n ws → cell_at (parse n ws) p ≢ None → Known n ws p
known n ws p l h = let t = there (cell_at (parse n ws) p) h in record { cell = t.0; is = t.1; found = found n ws p t.0 l t.1 }

-- a header is read alike whatever is past the words
pub read_twice : (ws : List ℕ) (p : ℕ) → Laid 0 ws → cell_at (parse 0 ws) p ≢ None → get_or ws p 0 ≡ get_or ws p (get_or ws p 0)
read_twice ws p l h =
    let f = (known 0 ws p l h).found in
    get_or_from_slice_get ws p f.head 0 f.read ∙ sym (get_or_from_slice_get ws p f.head (get_or ws p 0) f.read)

-- only cells are released
pub released_there : (n : ℕ) (ws : List ℕ) (p : ℕ) → slice_get (flags n ws) p ≡ Some true → cell_at (parse n ws) p ≢ None
released_there n [] p e = absurd (none-some true e)
released_there zero (h ∷ ws) zero e = λ z. none-some (record { tag = h / 64; fields = take (size h) ws }) (sym z)
released_there zero (h ∷ ws) (suc p) e = released_there (size h) ws p e
released_there (suc n) (w ∷ ws) zero e = absurd cc
released_there (suc n) (w ∷ ws) (suc p) e = released_there n ws p e

-- a cell is released where its header is odd
pub even : (h : ℕ) → Some (nat_eq (h % 2) 1) ≡ Some false → h % 2 ≡ 0
even h e = let b = same_Some (nat_eq (h % 2) 1) false e in grind (arith, nat_tests)

pub count_past : (k n : ℕ) (ws : List ℕ) (rs : List Bool) → Laid n ws → 16 < k → count_live k (parse n ws) rs ≡ 0
count_past k n [] rs l h = refl
count_past k zero (w ∷ ws) [] l h = refl
count_past k (suc n) (w ∷ ws) [] l h = refl
count_past k zero (w ∷ ws) (r ∷ rs) l h =
    let long = length_take (size w) ws l.3 in
    let few = l.1 in
    let rest = count_past k (size w) ws rs l.4 h in
    let one = none_live k (record { tag = w / 64; fields = take (size w) ws }) r (omega (arith, long, few, h)) in
    omega (arith, one, rest)
  where
    none_live : (k : ℕ) (c : Cell) (r : Bool) → size_of c < k → one_live k c r ≡ 0
    none_live k c true h = refl
    none_live k c false h = grind arith
count_past k (suc n) (w ∷ ws) (r ∷ rs) l h = count_past k n ws rs l h

pub free_past : (k n : ℕ) (ws : List ℕ) (rs : List Bool) → Laid n ws → 16 < k → count_free k (parse n ws) rs ≡ 0
free_past k n [] rs l h = refl
free_past k zero (w ∷ ws) [] l h = refl
free_past k (suc n) (w ∷ ws) [] l h = refl
free_past k zero (w ∷ ws) (r ∷ rs) l h =
    let long = length_take (size w) ws l.3 in
    let few = l.1 in
    let rest = free_past k (size w) ws rs l.4 h in
    let one = none_free k (record { tag = w / 64; fields = take (size w) ws }) r (omega (arith, long, few, h)) in
    omega (arith, one, rest)
  where
    none_free : (k : ℕ) (c : Cell) (r : Bool) → size_of c < k → one_free k c r ≡ 0
    none_free k c false h = refl
    none_free k c true h = grind arith
free_past k (suc n) (w ∷ ws) (r ∷ rs) l h = free_past k n ws rs l h

pub get_set : (xs : List ℕ) (i v k : ℕ) → i < length xs → get_or (set xs i v) k 0 ≡ cond (nat_eq k i) v (get_or xs k 0)
get_set xs i v k h = grind (arith, get_or-set_at xs i k v 0, get_or-set_other xs i k v 0)

pub counted_flag : (cs : Cells) (rs : List Bool) (ns : List ℕ) (p : ℕ) (c : Cell) → IsCounted cs rs ns → cell_at cs p ≡ Some c → slice_get rs p ≡ Some false → size_of c ≤ 16 → IsCounted cs (slice_set rs p true) (slice_set ns (size_of c) (get_or ns (size_of c) 0 - 1))
counted_flag cs rs ns p c kept e r small = record {
  wide = length_set ns (size_of c) _ ∙ kept.wide;
  exact = λ k h. grind (arith, kept.wide, small, get_set ns (size_of c) (get_or ns (size_of c) 0 - 1) k, count_flag k cs rs p c e r, kept.exact k h);
}

pub counted_some : (cs : Cells) (rs : List Bool) (ns : List ℕ) (p : ℕ) (c : Cell) → IsCounted cs rs ns → cell_at cs p ≡ Some c → slice_get rs p ≡ Some false → size_of c ≤ 16 → 1 ≤ get_or ns (size_of c) 0
counted_some cs rs ns p c kept e r small = grind (arith, count_flag (size_of c) cs rs p c e r, kept.exact (size_of c) small)

pub counted_set : (cs : Cells) (rs : List Bool) (ns : List ℕ) (p : ℕ) (c d : Cell) → IsCounted cs rs ns → cell_at cs p ≡ Some c → size_of d ≡ size_of c → IsCounted (slice_set cs p (Some d)) rs ns
counted_set cs rs ns p c d kept e h = record { wide = kept.wide; exact = λ k s. kept.exact k s ∙ sym (count_set k cs rs p c d e h) }

-- what a release does, by the word that was read
pub record Releases (ws : List ℕ) (p v : ℕ) (ns : List ℕ) : Type 0 where
  pub done : Released 0 ws p v
  pub kept : IsCounted (parse 0 ws) (slice_set (flags 0 ws) p true) (slice_set ns (size v) (get_or ns (size v) 0 - 1))
  pub some : 1 ≤ get_or ns (size v) 0

pub releases : (ws : List ℕ) (p v : ℕ) (ns : List ℕ) → Laid 0 ws → cell_at (parse 0 ws) p ≢ None → slice_get (flags 0 ws) p ≡ Some false → IsCounted (parse 0 ws) (flags 0 ws) ns → v ≡ get_or ws p v → Releases ws p v ns
releases ws p v ns l h live kept e =
    let k = known 0 ws p l h in
    let word = read_or ws p v k.found.head v k.found.read e in
    let zero = even k.found.head (sym k.found.flag ∙ live) in
    let few = k.found.few in
    let long = k.found.long in
    let long' : size v ≡ size_of k.cell = ap size word ∙ long in
    record {
      done = release 0 ws p v k.cell l k.is (k.found.read ∙ ap (λ w. Some w) (sym word)) (omega (arith, zero, word));
      kept = subst (λ z. IsCounted (parse 0 ws) (slice_set (flags 0 ws) p true) (slice_set ns z (get_or ns z 0 - 1))) (sym long') (counted_flag (parse 0 ws) (flags 0 ws) ns p k.cell kept k.is live (omega (arith, few, long)));
      some = subst (λ z. 1 ≤ get_or ns z 0) (sym long') (counted_some (parse 0 ws) (flags 0 ws) ns p k.cell kept k.is live (omega (arith, few, long)));
    }

pub header_size : (tag k v : ℕ) → k ≤ 16 → size (64 * tag + 2 * k + v % 2) ≡ k
header_size tag k v h =
    let half : (64 * tag + 2 * k + v % 2) / 2 ≡ 32 * tag + k = omega arith in
    ap (λ n. n % 32) half ∙ (let e : (32 * tag + k) % 32 ≡ k = omega (arith, h) in e)

pub header_tag : (tag k v : ℕ) → k ≤ 16 → (64 * tag + 2 * k + v % 2) / 64 ≡ tag
header_tag tag k v h = omega (arith, h)

header_odd : (tag k v : ℕ) → (64 * tag + 2 * k + v % 2) % 2 ≡ v % 2
header_odd tag k v = omega arith

header_small : (tag k v : ℕ) → k ≤ 16 → tag < 2 ^ 32 → 64 * tag + 2 * k + v % 2 < 2 ^ 38
header_small tag k v h b = omega (arith, h, b)

-- what an overwriting does
pub record Overwrites (ws : List ℕ) (p tag v : ℕ) (fs ns : List ℕ) : Type 0 where
  pub room : suc p + length fs ≤ length ws
  pub done : (c : Cell) × Overwritten 0 ws p (64 * tag + 2 * length fs + v % 2) fs c
  pub released : flags 0 (over_at ws p ((64 * tag + 2 * length fs + v % 2) ∷ fs)) ≡ flags 0 ws
  pub cells : parse 0 (over_at ws p ((64 * tag + 2 * length fs + v % 2) ∷ fs)) ≡ slice_set (parse 0 ws) p (Some (record { tag = tag; fields = fs }))
  pub sizes : sizes (slice_set (parse 0 ws) p (Some (record { tag = tag; fields = fs }))) ≡ sizes (parse 0 ws)
  pub kept : IsCounted (slice_set (parse 0 ws) p (Some (record { tag = tag; fields = fs }))) (flags 0 ws) ns
  pub number : number (slice_set (parse 0 ws) p (Some (record { tag = tag; fields = fs }))) ≡ number (parse 0 ws)

pub overwrites : (ws : List ℕ) (p tag v : ℕ) (fs ns : List ℕ) → Laid 0 ws → cell_at (parse 0 ws) p ≢ None → length fs ≡ size_in (cell_at (parse 0 ws) p) → IsCounted (parse 0 ws) (flags 0 ws) ns → v ≡ get_or ws p v → tag < 2 ^ 32 → Overwrites ws p tag v fs ns
overwrites ws p tag v fs ns l h same kept e small =
    let k = known 0 ws p l h in
    let word = read_or ws p v k.found.head v k.found.read e in
    let fit : length fs ≡ size_of k.cell = same ∙ ap size_in k.is in
    let few = k.found.few in
    let long = k.found.long in
    let bound : length fs ≤ 16 = omega (arith, fit, few, long) in
    let new : ℕ = 64 * tag + 2 * length fs + v % 2 in
    let size_is : size new ≡ length fs = header_size tag (length fs) v bound in
    let tag_is : new / 64 ≡ tag = header_tag tag (length fs) v bound in
    let odd : new % 2 ≡ v % 2 = header_odd tag (length fs) v in
    let o = overwritten 0 ws p new fs k.cell l k.is (size_is ∙ fit) fit (header_small tag (length fs) v bound small) in
    let same : slice_get (flags 0 ws) p ≡ Some (nat_eq (new % 2) 1) = k.found.flag ∙ ap (λ h. Some (nat_eq (h % 2) 1)) (sym word) ∙ ap (λ m. Some (nat_eq m 1)) (sym odd) in
    let within = k.found.within in
    record {
      room = omega (arith, within, fit, long);
      done = (k.cell, o);
      released = o.released ∙ flag_same (flags 0 ws) p (nat_eq (new % 2) 1) same;
      cells = o.cells ∙ ap (λ t. slice_set (parse 0 ws) p (Some (record { tag = t; fields = fs }))) tag_is;
      sizes = sizes_set (parse 0 ws) p k.cell (record { tag = tag; fields = fs }) k.is fit;
      kept = counted_set (parse 0 ws) (flags 0 ws) ns p k.cell (record { tag = tag; fields = fs }) kept k.is fit;
      number = number_set (parse 0 ws) p k.cell (record { tag = tag; fields = fs }) k.is;
    }

pub one_more : (xs : List ℕ) (i : ℕ) → i < length xs → take (i + 1) xs ≡ take i xs ++ get_or xs i 0 ∷ []
one_more [] i h = absurd (omega arith)
one_more (x ∷ xs) zero h = refl
one_more (x ∷ xs) (suc i) h = ap (λ k. take k (x ∷ xs)) (let e : suc i + 1 ≡ suc (i + 1) = omega arith in e) ∙ ap (λ ys. x ∷ ys) (one_more xs i (omega arith))

-- the loop that writes words one after another
pub writes_on : (ws xs : List ℕ) (start i : ℕ) → i < length xs → slice_set (over_at ws start (take i xs)) (start + i) (get_or xs i 0) ≡ over_at ws start (take (i + 1) xs)
writes_on ws xs start i h =
    ap (λ k. slice_set (over_at ws start (take i xs)) (start + k) (get_or xs i 0)) (sym (length_take i xs (omega (arith, h))))
    ∙ over_at_more ws start (take i xs) (get_or xs i 0)
    ∙ ap (over_at ws start) (sym (one_more xs i h))

-- a cell that is added at the end

parse_append : (n : ℕ) (ws vs : List ℕ) → Laid n ws → parse n (ws ++ vs) ≡ parse n ws ++ parse 0 vs
parse_append zero [] vs l = refl
parse_append (suc n) [] vs l = absurd l
parse_append zero (w ∷ ws) vs l = λ i. Some (record { tag = w / 64; fields = take_front (size w) ws vs l.3 i }) ∷ parse_append (size w) ws vs l.4 i
parse_append (suc n) (w ∷ ws) vs l = ap (λ cs. None ∷ cs) (parse_append n ws vs l)

flags_append : (n : ℕ) (ws vs : List ℕ) → Laid n ws → flags n (ws ++ vs) ≡ flags n ws ++ flags 0 vs
flags_append zero [] vs l = refl
flags_append (suc n) [] vs l = absurd l
flags_append zero (w ∷ ws) vs l = ap (λ cs. nat_eq (w % 2) 1 ∷ cs) (flags_append (size w) ws vs l.4)
flags_append (suc n) (w ∷ ws) vs l = ap (λ cs. false ∷ cs) (flags_append n ws vs l)

laid_append : (n : ℕ) (ws vs : List ℕ) → Laid n ws → Laid 0 vs → Laid n (ws ++ vs)
laid_append zero [] vs l m = m
laid_append (suc n) [] vs l m = absurd l
laid_append zero (w ∷ ws) vs l m = (l.0, l.1, l.2, (let k = l.3 in let a = length-append ws vs in omega (arith, k, a)), laid_append (size w) ws vs l.4 m)
laid_append (suc n) (w ∷ ws) vs l m = laid_append n ws vs l m

parse_gap : (fs : List ℕ) → parse (length fs) fs ≡ replicate (length fs) None
parse_gap [] = refl
parse_gap (f ∷ fs) = ap (λ cs. None ∷ cs) (parse_gap fs)

flags_gap : (fs : List ℕ) → flags (length fs) fs ≡ replicate (length fs) false
flags_gap [] = refl
flags_gap (f ∷ fs) = ap (λ cs. false ∷ cs) (flags_gap fs)

laid_gap : (fs : List ℕ) → Laid (length fs) fs
laid_gap [] = tt
laid_gap (f ∷ fs) = laid_gap fs

take_all : (fs : List ℕ) → take (length fs) fs ≡ fs
take_all [] = refl
take_all (f ∷ fs) = ap (λ xs. f ∷ xs) (take_all fs)

pub count_append : (k : ℕ) (cs ds : Cells) (rs qs : List Bool) → length rs ≡ length cs → count_live k (cs ++ ds) (rs ++ qs) ≡ count_live k cs rs + count_live k ds qs
count_append k [] ds [] qs e = omega arith
count_append k [] ds (r ∷ rs) qs e = absurd (omega arith)
count_append k (o ∷ cs) ds [] qs e = absurd (omega arith)
count_append k (None ∷ cs) ds (r ∷ rs) qs e = count_append k cs ds rs qs (omega arith)
count_append k (Some c ∷ cs) ds (r ∷ rs) qs e = let h = count_append k cs ds rs qs (omega arith) in omega (arith, h)

pub count_gap : (k n : ℕ) → count_live k (replicate n None) (replicate n false) ≡ 0
count_gap k zero = refl
count_gap k (suc n) = count_gap k n

number_append : (cs ds : Cells) → number (cs ++ ds) ≡ number cs + number ds
number_append [] ds = omega arith
number_append (None ∷ cs) ds = number_append cs ds
number_append (Some c ∷ cs) ds = let h = number_append cs ds in omega (arith, h)

number_gap : (n : ℕ) → number (replicate n None) ≡ 0
number_gap zero = refl
number_gap (suc n) = number_gap n

pub length_parse : (n : ℕ) (ws : List ℕ) → length (parse n ws) ≡ length ws
length_parse n [] = refl
length_parse zero (w ∷ ws) = ap suc (length_parse (size w) ws)
length_parse (suc n) (w ∷ ws) = ap suc (length_parse n ws)

pub length_flags : (n : ℕ) (ws : List ℕ) → length (flags n ws) ≡ length ws
length_flags n [] = refl
length_flags zero (w ∷ ws) = ap suc (length_flags (size w) ws)
length_flags (suc n) (w ∷ ws) = ap suc (length_flags n ws)

pub record Appended (ws : List ℕ) (tag : ℕ) (fs ns : List ℕ) : Type 0 where
  pub cells : parse 0 (ws ++ header tag (length fs) ∷ fs) ≡ parse 0 ws ++ Some (record { tag = tag; fields = fs }) ∷ replicate (length fs) None
  pub released : flags 0 (ws ++ header tag (length fs) ∷ fs) ≡ flags 0 ws ++ false ∷ replicate (length fs) false
  pub laid : Laid 0 (ws ++ header tag (length fs) ∷ fs)
  pub counted : IsCounted (parse 0 (ws ++ header tag (length fs) ∷ fs)) (flags 0 (ws ++ header tag (length fs) ∷ fs)) (set ns (length fs) (get_or ns (length fs) 0 + 1))
  pub number : number (parse 0 (ws ++ header tag (length fs) ∷ fs)) ≡ number (parse 0 ws) + 1

count_new : (k n tag : ℕ) (fs : List ℕ) (cs new : Cells) (rs qs : List Bool) → length rs ≡ length cs → new ≡ cs ++ Some (record { tag = tag; fields = fs }) ∷ replicate n None → qs ≡ rs ++ false ∷ replicate n false → count_live k new qs ≡ count_live k cs rs + cond (nat_eq k (length fs)) 1 0
count_new k n tag fs cs new rs qs e a b =
    let c = count_append k cs (Some (record { tag = tag; fields = fs }) ∷ replicate n None) rs (false ∷ replicate n false) e in
    let g = count_gap k n in
    (λ i. count_live k (a i) (b i)) ∙ c ∙ ap (λ m. count_live k cs rs + (one_live k (record { tag = tag; fields = fs }) false + m)) g ∙ (let z : count_live k cs rs + (cond (nat_eq k (length fs)) 1 0 + 0) ≡ count_live k cs rs + cond (nat_eq k (length fs)) 1 0 = omega arith in z)

pub appended : (ws : List ℕ) (tag : ℕ) (fs ns : List ℕ) → Laid 0 ws → IsCounted (parse 0 ws) (flags 0 ws) ns → 0 < length fs → length fs ≤ 16 → tag < 2 ^ 32 → Appended ws tag fs ns
appended ws tag fs ns l kept some few small =
    let h : ℕ = header tag (length fs) in
    let n = length fs in
    let long : size h ≡ n = (let half : (64 * tag + 2 * n) / 2 ≡ 32 * tag + n = omega arith in ap (λ k. k % 32) half ∙ (let e : (32 * tag + n) % 32 ≡ n = omega (arith, few) in e)) in
    let tag_is : h / 64 ≡ tag = omega (arith, few) in
    let even' : nat_eq (h % 2) 1 ≡ false = (let z : (64 * tag + 2 * n) % 2 ≡ 0 = omega arith in grind (arith, nat_tests)) in
    let one : parse 0 (h ∷ fs) ≡ Some (record { tag = tag; fields = fs }) ∷ replicate n None = (λ i. Some (record { tag = tag_is i; fields = take (long i) fs }) ∷ parse (long i) fs) ∙ (λ i. Some (record { tag = tag; fields = take_all fs i }) ∷ parse_gap fs i) in
    let flag : flags 0 (h ∷ fs) ≡ false ∷ replicate n false = (λ i. even' i ∷ flags (long i) fs) ∙ ap (λ bs. false ∷ bs) (flags_gap fs) in
    let cells = parse_append 0 ws (h ∷ fs) l ∙ ap (λ cs. parse 0 ws ++ cs) one in
    let released = flags_append 0 ws (h ∷ fs) l ∙ ap (λ bs. flags 0 ws ++ bs) flag in
    let laid : Laid 0 (h ∷ fs) = subst (λ k. (0 < k) × (k ≤ 16) × (h < 2 ^ 38) × (k ≤ length fs) × Laid k fs) (sym long) (some, few, omega (arith, few, small), omega arith, laid_gap fs) in
    record {
      cells = cells;
      released = released;
      laid = laid_append 0 ws (h ∷ fs) l laid;
      counted = record {
        wide = length_set ns n _ ∙ kept.wide;
        exact = λ k s. grind (arith, kept.wide, few, get_set ns n (get_or ns n 0 + 1) k, kept.exact k s, kept.exact n few, count_new k n tag fs (parse 0 ws) (parse 0 (ws ++ h ∷ fs)) (flags 0 ws) (flags 0 (ws ++ h ∷ fs)) (length_flags 0 ws ∙ sym (length_parse 0 ws)) cells released);
      };
      number = ap number cells ∙ number_append (parse 0 ws) (Some (record { tag = tag; fields = fs }) ∷ replicate n None) ∙ (let g = number_gap n in omega (arith, g));
    }

-- no more cells than words

pub number_le : (cs : Cells) → number cs ≤ length cs
number_le [] = omega arith
number_le (None ∷ cs) = let h = number_le cs in omega (arith, h)
number_le (Some c ∷ cs) = let h = number_le cs in omega (arith, h)

pub one_live_le : (k : ℕ) (c : Cell) (r : Bool) → one_live k c r ≤ 1
one_live_le k c true = omega arith
one_live_le k c false = elim (nat_eq k (size_of c)) as (λ b. cond b 1 0 ≤ 1) [ true ↦ omega arith | false ↦ omega arith ]

pub count_le : (k : ℕ) (cs : Cells) (rs : List Bool) → count_live k cs rs ≤ length cs
count_le k [] rs = omega arith
count_le k (o ∷ cs) [] = omega arith
count_le k (None ∷ cs) (r ∷ rs) = let h = count_le k cs rs in omega (arith, h)
count_le k (Some c ∷ cs) (r ∷ rs) = let h = count_le k cs rs in let o = one_live_le k c r in omega (arith, h, o)

pub one_live_past : (k : ℕ) (c : Cell) (r : Bool) → size_of c < k → one_live k c r ≡ 0
one_live_past k c true h = refl
one_live_past k c false h = grind arith

-- what begins after a cell
pub record Next (n : ℕ) (ws : List ℕ) (p : ℕ) (c : Cell) : Type 0 where
  pub there : p + 1 + size_of c < length ws → cell_at (parse n ws) (p + 1 + size_of c) ≢ None
  pub between : (r : ℕ) → p < r → r < p + 1 + size_of c → cell_at (parse n ws) r ≡ None
  pub within : p + 1 + size_of c ≤ length ws

no_cell : (n : ℕ) (ws : List ℕ) (r : ℕ) → r < n → cell_at (parse n ws) r ≡ None
no_cell n [] r h = refl
no_cell zero (w ∷ ws) r h = absurd (omega arith)
no_cell (suc n) (w ∷ ws) zero h = refl
no_cell (suc n) (w ∷ ws) (suc r) h = no_cell n ws r (omega arith)

pub first_cell : (n : ℕ) (ws : List ℕ) → n < length ws → cell_at (parse n ws) n ≢ None
first_cell n [] h = absurd (omega arith)
first_cell zero (w ∷ ws) h = λ e. none-some (record { tag = w / 64; fields = take (size w) ws }) (sym e)
first_cell (suc n) (w ∷ ws) h = first_cell n ws (omega arith)

further : (n w : ℕ) (ws : List ℕ) (p : ℕ) (c : Cell) (o : Option Cell) → Next n ws p c → (r : ℕ) → suc p < r → r < suc p + 1 + size_of c → cell_at (o ∷ parse n ws) r ≡ None
further n w ws p c o f zero a b = absurd (omega arith)
further n w ws p c o f (suc r) a b = f.between r (omega arith) (omega arith)

pub next : (n : ℕ) (ws : List ℕ) (p : ℕ) (c : Cell) → Laid n ws → cell_at (parse n ws) p ≡ Some c → Next n ws p c
next n [] p c l e = absurd (none-some c e)
next zero (w ∷ ws) zero c l e =
    let is : record { tag = w / 64; fields = take (size w) ws } ≡ c = same_Some (record { tag = w / 64; fields = take (size w) ws }) c e in
    let long : size w ≡ size_of c = sym (length_take (size w) ws l.3) ∙ ap size_of is in
    let first : 0 + 1 + size_of c ≡ suc (size_of c) = omega arith in
    record {
      there = λ h. subst (λ k. cell_at (parse zero (w ∷ ws)) k ≢ None) (sym first) (subst (λ k. cell_at (parse (size w) ws) k ≢ None) long (first_cell (size w) ws (omega (arith, h, long))));
      between = λ r a b. following r a (omega (arith, b, long));
      within = (let k = l.3 in omega (arith, k, long));
    }
  where
    following : (r : ℕ) → 0 < r → r < suc (size w) → cell_at (parse zero (w ∷ ws)) r ≡ None
    following zero a b = absurd (omega arith)
    following (suc r) a b = no_cell (size w) ws r (omega arith)
next zero (w ∷ ws) (suc p) c l e =
    let f = next (size w) ws p c l.4 e in
    let step : suc p + 1 + size_of c ≡ suc (p + 1 + size_of c) = omega arith in
    record {
      there = λ h. subst (λ k. cell_at (parse zero (w ∷ ws)) k ≢ None) (sym step) (f.there (omega (arith, h)));
      between = λ r a b. further (size w) w ws p c (Some (record { tag = w / 64; fields = take (size w) ws })) f r a b;
      within = (let k = f.within in omega (arith, k));
    }
next (suc n) (w ∷ ws) zero c l e = absurd (none-some c e)
next (suc n) (w ∷ ws) (suc p) c l e =
    let f = next n ws p c l e in
    let step : suc p + 1 + size_of c ≡ suc (p + 1 + size_of c) = omega arith in
    record {
      there = λ h. subst (λ k. cell_at (parse (suc n) (w ∷ ws)) k ≢ None) (sym step) (f.there (omega (arith, h)));
      between = λ r a b. further n w ws p c None f r a b;
      within = (let k = f.within in omega (arith, k));
    }

pub cell_past : (cs : Cells) (r : ℕ) → length cs ≤ r → cell_at cs r ≡ None
cell_past [] r h = refl
cell_past (o ∷ cs) zero h = absurd (omega arith)
cell_past (o ∷ cs) (suc r) h = cell_past cs r (omega arith)

-- nothing begins after the last cell
pub none_after : (ws : List ℕ) (p : ℕ) (c : Cell) → Laid 0 ws → cell_at (parse 0 ws) p ≡ Some c → length ws ≤ p + 1 + size_of c → (r : ℕ) → p < r → cell_at (parse 0 ws) r ≡ None
none_after ws p c l e h r a = elim (cases_lt r (p + 1 + size_of c)) [
  | inl b ↦ (next 0 ws p c l e).between r a b
  | inr b ↦ cell_past (parse 0 ws) r (let z = length_parse 0 ws in omega (arith, z, b, h))
]

pub if_some : (o : Option ℕ) (P Q : ℕ → Type 0) → ((q : ℕ) → P q → Q q) → IfSome o P → IfSome o Q
if_some None P Q f h = h
if_some (Some q) P Q f h = f q h

pub if_none : (o : Option ℕ) (P Q : Type 0) → (P → Q) → IfNone o P → IfNone o Q
if_none None P Q f h = f h
if_none (Some q) P Q f h = h

-- the size that was read is the cell's
pub read_size : (o : Option Cell) (c : Cell) (k : ℕ) → o ≡ Some c → option_map size_of o ≡ Some k → k ≡ size_of c
read_size o c k e h = same_Some k (size_of c) (sym h ∙ ap (option_map size_of) e)
