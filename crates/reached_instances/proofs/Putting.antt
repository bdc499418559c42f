-- Places that are put after others, one after another.
use Rattle.std.proofs.Common.{◌≡◌, ℕ, zero, suc, ◌+◌, ◌<◌, ◌≤◌, List, [], ◌∷◌, ◌++◌, length, map, if◌then◌else◌, take, drop, get_or, refl, ap, sym, subst, ◌∙◌, arith, append_assoc, append-nil, drop_of_length-le}
use Rattle.std.proofs.Math.Seq.{take-suc}
use Rattle.std.proofs.lemmas.Bool.{ne_eqb}
use Rattle.fip_base.specs.fip_language.Every.{Every}
use Rattle.fip_base.specs.fip_language.Mentions.{all_of}
use Rattle.fip_base.proofs.fip_language.Plain.{every_append}
use Rattle.closed_types.specs.Closed.{Closed, Int}
use Rattle.closed_types.specs.PutView.{Put, with_unless_int}
use Rattle.closed_types.specs.SharedTrees.{AreWithin, Branch, Grows, Kept, all_at, tree_at, tree_of, trees, with_branches}
use Rattle.closed_types.specs.TypeInstances.{unless_int}
use Rattle.reached_instances.proofs.Closing.{at_append, kept_all}
use Rattle.closed_types.proofs.Growing.{grows_same, grows_more, within_more}
use Rattle.closed_types.proofs.Lists.{drop_item}
use Rattle.closed_types.proofs.SharedAt.{int_first}
use Rattle.closed_types.proofs.SharedTrees.{so_many}
pub use Rattle.fip_base.proofs.fip_language.Facts.{map_map, take_past}
use Rattle.closed_types.proofs.Growing.{length_append as length_after}
use Rattle.closed_types.proofs.Heard.{all_of_append}

-- ---- what is put

-- other trees came after, and no place
pub put_grown : (k l : Kept) (is : List ℕ) → Grows k.branches l.branches → l.fits ≡ k.fits → AreWithin k.branches is → Put k l is is []
put_grown k l is g f w = record {
  grows = g;
  fits = f;
  within = within_more k.branches l.branches is g w;
  trees = kept_all k.branches l.branches is g w ∙ sym (append-nil (all_at (trees k.branches) is));
}

pub put_none : (k : Kept) (is : List ℕ) → AreWithin k.branches is → Put k k is is []
put_none k is w = put_grown k k is (grows_same k.branches) refl w

pub put_more : (k l m : Kept) (is js ks : List ℕ) (cs ds : List Closed) → Put k l is js cs → Put l m js ks ds → Put k m is ks (cs ++ ds)
put_more k l m is js ks cs ds p q = record {
  grows = grows_more k.branches l.branches m.branches p.grows q.grows;
  fits = q.fits ∙ p.fits;
  within = q.within;
  trees = q.trees ∙ ap (λ xs. xs ++ ds) p.trees ∙ append_assoc (all_at (trees k.branches) is) cs ds;
}

pub put_as : (k l : Kept) (is js : List ℕ) (cs ds : List Closed) → cs ≡ ds → Put k l is js cs → Put k l is js ds
put_as k l is js cs ds e p = subst (Put k l is js) e p

-- one place
pub put_place : (k l : Kept) (is js : List ℕ) (i : ℕ) (c : Closed) → Grows k.branches l.branches → l.fits ≡ k.fits → AreWithin k.branches is → i < length l.branches + 1 → tree_at (trees l.branches) i ≡ c → js ≡ is ++ i ∷ [] → Put k l is js (c ∷ [])
put_place k l is js i c g f w h t e = record {
  grows = g;
  fits = f;
  within = subst (AreWithin l.branches) (sym e) (every_append (λ j. j < length l.branches + 1) is (i ∷ []) (within_more k.branches l.branches is g w) (h, tt));
  trees =
      ap (all_at (trees l.branches)) e
      ∙ at_append (trees l.branches) is (i ∷ [])
      ∙ ap (λ (d : Closed). all_at (trees l.branches) is ++ d ∷ []) t
      ∙ ap (λ ds. ds ++ c ∷ []) (kept_all k.branches l.branches is g w);
}

-- ---- int stands at place 0 alone

IsData : Closed → Type 0
IsData c = unless_int c ≡ c ∷ []

after_data : (ts : List Closed) (bs : List Branch) → (more : List Closed) × (with_branches ts bs ≡ ts ++ more) × Every (λ c. unless_int c ≡ c ∷ []) more
after_data ts [] = ([], sym (append-nil ts), tt)
after_data ts (b ∷ bs) =
    let r = after_data (ts ++ tree_of ts b ∷ []) bs in
    (tree_of ts b ∷ r.0, r.1 ∙ append_assoc ts (tree_of ts b ∷ []) r.0, (refl, r.2))

data_at : (cs : List Closed) (j : ℕ) → Every (λ c. unless_int c ≡ c ∷ []) cs → j < length cs → unless_int (get_or cs j Int) ≡ get_or cs j Int ∷ []
data_at [] j e h = absurd (omega (arith, h))
data_at (c ∷ cs) zero e h = e.0
data_at (c ∷ cs) (suc j) e h = data_at cs j e.1 (omega (arith, h))

pub not_int : (bs : List Branch) (j : ℕ) → suc j < length bs + 1 → unless_int (tree_at (trees bs) (suc j)) ≡ tree_at (trees bs) (suc j) ∷ []
not_int bs j h =
    let r = after_data (Int ∷ []) bs in
    let n = so_many (Int ∷ []) bs in
    let m = ap length r.1 in
    let k = length_after (Int ∷ []) r.0 in
    subst (λ l. unless_int (get_or l (suc j) Int) ≡ get_or l (suc j) Int ∷ []) (sym r.1) (data_at r.0 j r.2 (omega (arith, h, n, m, k)))

-- one place, unless int stands there
pub put_unless : (k l : Kept) (is js : List ℕ) (i : ℕ) (c : Closed) → Grows k.branches l.branches → l.fits ≡ k.fits → AreWithin k.branches is → i < length l.branches + 1 → tree_at (trees l.branches) i ≡ c → js ≡ with_unless_int is i → Put k l is js (unless_int c)
put_unless k l is js zero c g f w h t e =
    put_as k l is js [] (unless_int c) (ap unless_int (sym (int_first l.branches) ∙ t))
    (subst (λ (ks : List ℕ). Put k l is ks []) (sym e) (put_grown k l is g f w))
put_unless k l is js (suc j) c g f w h t e =
    put_as k l is js (tree_at (trees l.branches) (suc j) ∷ []) (unless_int c) (sym (not_int l.branches j h) ∙ ap unless_int t)
    (put_place k l is js (suc j) (tree_at (trees l.branches) (suc j)) g f w h refl (e ∙ ap (λ b. if b then is else is ++ suc j ∷ []) (ne_eqb (suc j) 0 (λ q. omega (arith, q)))))

-- ---- lists

pub all_of_map : {A B C : Type 0} (f : B → List C) (g : A → B) (xs : List A) → all_of f (map g xs) ≡ all_of (λ x. f (g x)) xs
all_of_map f g [] = refl
all_of_map f g (x ∷ xs) = ap (λ l. f (g x) ++ l) (all_of_map f g xs)

pub all_of_single : {A B : Type 0} (g : A → B) (xs : List A) → all_of (λ x. g x ∷ []) xs ≡ map g xs
all_of_single g [] = refl
all_of_single g (x ∷ xs) = ap (λ l. g x ∷ l) (all_of_single g xs)

-- what one item more gives
pub all_of_next : {A B : Type 0} (f : A → List B) (xs : List A) (i : ℕ) (x : A) → i < length xs → x ≡ get_or xs i x → all_of f (take (i + 1) xs) ≡ all_of f (take i xs) ++ f x
all_of_next f xs i x h e =
    ap (λ n. all_of f (take n xs)) (let g : i + 1 ≡ suc i = omega arith in g)
    ∙ ap (all_of f) (take-suc xs i x h ∙ ap (λ y. take i xs ++ y ∷ []) (sym e))
    ∙ all_of_append f (take i xs) (x ∷ [])
    ∙ ap (λ l. all_of f (take i xs) ++ l) (append-nil (f x))

-- ---- a list of what is put

pub put_starts : {A : Type 0} (f : A → List Closed) (xs : List A) (k : Kept) (is : List ℕ) → AreWithin k.branches is → Put k k is is (all_of f (take 0 xs))
put_starts f xs k is w = put_as k k is is [] (all_of f (take 0 xs)) refl (put_none k is w)

pub put_step : {A : Type 0} (f : A → List Closed) (xs : List A) (i : ℕ) (x : A) (k l m : Kept) (is js ks : List ℕ) → i < length xs → x ≡ get_or xs i x → Put k l is js (all_of f (take i xs)) → Put l m js ks (f x) → Put k m is ks (all_of f (take (i + 1) xs))
put_step f xs i x k l m is js ks h e p q =
    put_as k m is ks (all_of f (take i xs) ++ f x) (all_of f (take (i + 1) xs)) (sym (all_of_next f xs i x h e))
    (put_more k l m is js ks (all_of f (take i xs)) (f x) p q)

pub put_ends : {A : Type 0} (f : A → List Closed) (xs : List A) (i : ℕ) (k l : Kept) (is js : List ℕ) → length xs ≤ i → Put k l is js (all_of f (take i xs)) → Put k l is js (all_of f xs)
put_ends f xs i k l is js h p = put_as k l is js (all_of f (take i xs)) (all_of f xs) (ap (all_of f) (take_past xs i h)) p

-- ---- an item of a list

any_or : {A : Type 0} (xs : List A) (i : ℕ) (d e : A) → i < length xs → get_or xs i d ≡ get_or xs i e
any_or [] i d e h = absurd (omega (arith, h))
any_or (x ∷ xs) zero d e h = refl
any_or (x ∷ xs) (suc i) d e h = any_or xs i d e (omega (arith, h))

pub item_is : {A : Type 0} (xs : List A) (i : ℕ) (d : A) → i < length xs → get_or xs i d ≡ get_or xs i (get_or xs i d)
item_is xs i d h = any_or xs i d (get_or xs i d) h

pub every_there : {A : Type 0} (P : A → Type 0) (xs : List A) (i : ℕ) (x : A) → Every P xs → i < length xs → x ≡ get_or xs i x → P x
every_there P [] i x e h g = absurd (omega (arith, h))
every_there P (y ∷ xs) zero x e h g = subst P (sym g) e.0
every_there P (y ∷ xs) (suc i) x e h g = every_there P xs i x e.1 (omega (arith, h)) g

-- ---- a walk that makes one item of each

pub plain_goes : {A B : Type 0} (f : A → B) (out out2 : List B) (list : List A) (i : ℕ) (x : A) (y : B) (whole : List B) → i < length list → x ≡ get_or list i x → out2 ≡ out ++ y ∷ [] → y ≡ f x → out ++ map f (drop i list) ≡ whole → out2 ++ map f (drop (i + 1) list) ≡ whole
plain_goes f out out2 list i x y whole h e push made before =
    let rest = map f (drop (i + 1) list) in
    ap (λ l. l ++ rest) push
    ∙ append_assoc out (y ∷ []) rest
    ∙ ap (λ b. out ++ b ∷ rest) made
    ∙ ap (λ l. out ++ map f l) (sym (drop_item list i x h e))
    ∙ before

pub plain_done : {A B : Type 0} (f : A → B) (out : List B) (list : List A) (i : ℕ) (whole : List B) → length list ≤ i → out ++ map f (drop i list) ≡ whole → out ≡ whole
plain_done f out list i whole h e =
    sym (append-nil out) ∙ ap (λ l. out ++ map f l) (sym (drop_of_length-le list h)) ∙ e
