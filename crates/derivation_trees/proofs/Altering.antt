-- A list of nodes in which one was changed.
use Rattle.std.proofs.Common.{◌≡◌, ℕ, zero, suc, ◌+◌, ◌-◌, ◌<◌, ◌≤◌, ◌⊎◌, inl, inr, refl, sym, ap, ap₂, subst, ◌∙◌, List, [], ◌∷◌, ◌++◌, length, get_or, slice_set, Option, Some, None, arith}
use Rattle.std.specs.Prelude.{slice_get}
use Rattle.std.proofs.lemmas.Option.{none-some, same_Some}
use Rattle.fip_base.proofs.fip_language.Facts.{get_push}
use Rattle.std.proofs.lemmas.List.{length-map, map-append}
use Rattle.derivation_trees.specs.declared.derivation.RuleName.{RuleName}
use Rattle.derivation_trees.specs.declared.derivation.Credit.{Credit}
use Rattle.derivation_trees.specs.declared.derivation.Node.{Node}
use Rattle.derivation_trees.specs.Trees.{Head, head, heads}
use Rattle.derivation_trees.specs.Building.{Built, alter, alter_at, innermost, with_part, with_span, opened}
use Rattle.derivation_trees.specs.Parts.{AreThere, HaveFewParts}

pub alter_past : (f : Head → Head) (ns : List Node) (i : ℕ) → length ns ≤ i → heads ns ≡ alter f i (heads ns)
alter_past f [] i l = refl
alter_past f (n ∷ ns) zero l = absurd (omega arith)
alter_past f (n ∷ ns) (suc i) l = ap (λ hs. head n ∷ hs) (alter_past f ns i (omega arith))

pub alter_set : (f : Head → Head) (ns : List Node) (i : ℕ) (n m : Node) → i < length ns → n ≡ get_or ns i n → head m ≡ f (head n) → heads (slice_set ns i m) ≡ alter f i (heads ns)
alter_set f [] i n m l e h = absurd (omega arith)
alter_set f (o ∷ ns) zero n m l e h = ap (λ g. g ∷ heads ns) (h ∙ ap (λ n. f (head n)) e)
alter_set f (o ∷ ns) (suc i) n m l e h = ap (λ hs. head o ∷ hs) (alter_set f ns i n m (omega arith) e h)

pub alter_length : (f : Head → Head) (o : Option ℕ) (hs : List Head) → length (alter_at f o hs) ≡ length hs
alter_length f None hs = refl
alter_length f (Some i) hs = at i hs
  where
    at : (i : ℕ) (hs : List Head) → length (alter f i hs) ≡ length hs
    at i [] = refl
    at zero (h ∷ hs) = refl
    at (suc i) (h ∷ hs) = ap suc (at i hs)

alter_front : (f : Head → Head) (i : ℕ) (hs ks : List Head) → i < length hs → alter f i (hs ++ ks) ≡ alter f i hs ++ ks
alter_front f i [] ks l = absurd (omega arith)
alter_front f zero (h ∷ hs) ks l = refl
alter_front f (suc i) (h ∷ hs) ks l = ap (λ gs. h ∷ gs) (alter_front f i hs ks (omega arith))

-- a change at an open node's place is one of those before the last
pub alter_before : (f : Head → Head) (is : List ℕ) (hs ks : List Head) → AreThere (length hs) is → alter_at f (innermost is) (hs ++ ks) ≡ alter_at f (innermost is) hs ++ ks
alter_before f is hs ks t = of (innermost is) refl
  where
    of : (o : Option ℕ) → innermost is ≡ o → alter_at f o (hs ++ ks) ≡ alter_at f o hs ++ ks
    of None e = refl
    of (Some i) e = alter_front f i hs ks (t (length is - 1) i e)

-- ---- few parts

altered_few : (n m : ℕ) (f : Head → Head) (i : ℕ) (hs : List Head) → n ≤ m → ((h : Head) → h.parts < n → (f h).parts < m) → HaveFewParts n hs → (k : ℕ) (x : Head) → slice_get (alter f i hs) k ≡ Some x → x.parts < m
altered_few n m f i [] l p few k x e = absurd (none-some x e)
altered_few n m f zero (h ∷ hs) l p few zero x e =
    let a : (f h).parts < m = p h (few 0 h refl) in
    let s : (f h).parts ≡ x.parts = ap (λ (z : Head). z.parts) (same_Some (f h) x e) in
    omega (arith, a, s)
altered_few n m f zero (h ∷ hs) l p few (suc k) x e = let a = few (suc k) x e in omega (arith, a, l)
altered_few n m f (suc i) (h ∷ hs) l p few zero x e = let a = few 0 x e in omega (arith, a, l)
altered_few n m f (suc i) (h ∷ hs) l p few (suc k) x e = altered_few n m f i hs l p (λ j y u. few (suc j) y u) k x e

-- one part more
pub part_few : (n : ℕ) (o : Option ℕ) (hs : List Head) → HaveFewParts n hs → HaveFewParts (n + 1) (alter_at with_part o hs)
part_few n None hs few = λ k x e. let a = few k x e in omega (arith, a)
part_few n (Some i) hs few = altered_few n (n + 1) with_part i hs (omega arith) (λ h l. omega (arith, l)) few

pub span_few : (n m i : ℕ) (hs : List Head) → HaveFewParts n hs → HaveFewParts n (alter (with_span m) i hs)
span_few n m i hs few = altered_few n n (with_span m) i hs (omega arith) (λ h l. l) few

pub pushed_few : (n : ℕ) (hs : List Head) (h : Head) → HaveFewParts n hs → h.parts < n → HaveFewParts n (hs ++ h ∷ [])
pushed_few n hs h few l = λ k x e. of k x (get_push hs h k x e)
  where
    of : (k : ℕ) (x : Head) → (slice_get hs k ≡ Some x) ⊎ ((k ≡ length hs) × (x ≡ h)) → x.parts < n
    of k x (inl e) = few k x e
    of k x (inr e) = let s = ap (λ (z : Head). z.parts) e.1 in omega (arith, s, l)

pub pushed_there : (n : ℕ) (is : List ℕ) → AreThere n is → AreThere (n + 1) (is ++ n ∷ [])
pushed_there n is t = λ k i e. of k i (get_push is n k i e)
  where
    of : (k i : ℕ) → (slice_get is k ≡ Some i) ⊎ ((k ≡ length is) × (i ≡ n)) → i < n + 1
    of k i (inl e) = let a = t k i e in omega (arith, a)
    of k i (inr e) = let a = e.1 in omega (arith, a)

-- A node that is put after the others, of which one has a part more then.
pub opened_is : (b : Built) (ns : List Node) (n : Node) (hs : List Head) (rule : RuleName) (variables : List ℕ) (credits : List Credit) → b.nodes ≡ heads ns → AreThere (length ns) b.open_at → hs ≡ alter_at with_part (innermost b.open_at) (heads (ns ++ n ∷ [])) → head n ≡ record { rule = rule; variables = variables; credits = credits; parts = 0; span = 1 } → record { nodes = hs; open_at = b.open_at ++ length ns ∷ [] } ≡ opened b rule variables credits
opened_is b ns n hs rule variables credits b0 t e f =
    let l : length ns ≡ length b.nodes = sym (ap length b0 ∙ length-map ns head) in
    let t' : AreThere (length b.nodes) b.open_at = subst (λ k. AreThere k b.open_at) l t in
    let g : heads (ns ++ n ∷ []) ≡ b.nodes ++ record { rule = rule; variables = variables; credits = credits; parts = 0; span = 1 } ∷ [] =
    map-append head ns (n ∷ []) ∙ ap₂ (λ hs h. hs ++ h ∷ []) (sym b0) f in
    ap₂ (λ hs k. record { nodes = hs; open_at = b.open_at ++ k ∷ [] })
    (e ∙ ap (alter_at with_part (innermost b.open_at)) g ∙ alter_before with_part b.open_at b.nodes (record { rule = rule; variables = variables; credits = credits; parts = 0; span = 1 } ∷ []) t') l
