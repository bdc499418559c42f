-- Runs of tests, reads and jumps.
use Rattle.std.proofs.Common.{◌≡◌, ◌⊎◌, inl, inr, refl, sym, ap, ◌∙◌, subst, arith, ℕ, zero, suc, ◌+◌, ◌≤◌, Bool, true, false, List, [], ◌∷◌, Option, Some, None, slice_get}
use Rattle.std.specs.Prelude.{option_and_then, option_map}
use Rattle.tree_semantics.specs.fip_language.Values.{Value, Int, Node}
use Rattle.tree_semantics.specs.fip_language.Every.{Among}
use Rattle.code_rules.specs.cell_code.declared.code.Instr.{Instr}
use Rattle.code_rules.specs.cell_code.declared.code.Instr.TheVariants as I
use Rattle.tree_semantics.specs.Contents as C
use Rattle.tree_semantics.specs.Contents.{Contents, put, put_all, value_at}
use Rattle.tree_semantics.proofs.Puts.{put_same, put_other}
use Rattle.match_knowledge.specs.ValueHeads.{children}
use Rattle.lowering_relation.specs.Choosing.{Place, place, followed, after, Reaches}
use Rattle.lowering_relation.specs.Written.{Written, size, HasFrom, added}
use Rattle.lowering_relation.specs.Reading.{Reading, read_if, read_one, contains}
use Rattle.lowering_relation.proofs.Placing.{one_longer, stands}
use Rattle.lowering_relation.proofs.MatchLists.{contains_among}
use Rattle.match_knowledge.proofs.fip_base.fip_language.Facts.{suc_on}

pub same_children : (v : Value) → C.children v ≡ children v
same_children (Int i) = refl
same_children (Node c vs) = refl

pub reaches_same : (code : List Instr) (p : Place) → Reaches code p p
reaches_same code p = record { steps = 0; is = refl }

zero_on : (n : ℕ) → 0 + n ≡ n
zero_on n = omega arith

after_on : (code : List Instr) (m n : ℕ) (o : Option Place) (q r : Place) → option_and_then (λ p. after code m p) o ≡ Some q → after code n q ≡ Some r → option_and_then (λ p. after code (m + n) p) o ≡ Some r
after_on code m n None q r a b = absurd (cc)
after_on code zero n (Some p) q r a b = ap (λ k. after code k p) (zero_on n) ∙ ap (after code n) (same_some p q a) ∙ b
  where
    same_some : (x y : Place) → Some x ≡ Some y → x ≡ y
    same_some x y e = cc
after_on code (suc m) n (Some p) q r a b = ap (λ k. after code k p) (suc_on m n) ∙ after_on code m n (followed p (slice_get code p.at)) q r a b

pub reaches_on : (code : List Instr) (p q r : Place) → Reaches code p q → Reaches code q r → Reaches code p r
reaches_on code p q r a b = record { steps = a.steps + b.steps; is = after_on code a.steps b.steps (Some p) q r a.is b.is }

pub goes_one : (code : List Instr) (p q : Place) (i : Instr) → slice_get code p.at ≡ Some i → followed p (Some i) ≡ Some q → Reaches code p q
goes_one code p q i h e = record { steps = 1; is = ap (option_and_then (λ z. after code 0 z)) (ap (followed p) h ∙ e) }

-- at the next instruction
pub to_next : (code : List Instr) (w : Written) (i : Instr) (p : Place) (cs : Contents) → Reaches code p (place (suc (size w)) cs) → Reaches code p (place (size (added w i)) cs)
to_next code w i p cs h = subst (λ n. Reaches code p (place n cs)) (sym (one_longer w i)) h

-- a field that is read
pub peek_goes : (n : ℕ) (w : Written) (to : ℕ → ℕ) (code : List Instr) (cs : Contents) (r i d : ℕ) (v u : Value) → n ≤ size w → HasFrom n (added w (I.Peek d r i)) to code → cs r ≡ v → value_at (children v) i ≡ Some u → Reaches code (place (size w) cs) (place (size (added w (I.Peek d r i))) (put cs d u))
peek_goes n w to code cs r i d v u le h e f =
    to_next code w (I.Peek d r i) (place (size w) cs) (put cs d u)
    (goes_one code (place (size w) cs) (place (suc (size w)) (put cs d u)) (I.Peek d r i) (stands w (I.Peek d r i) n to code le h)
    (ap (option_map (λ x. place (suc (size w)) (put cs d x))) (ap (λ y. value_at y i) (same_children (cs r) ∙ ap children e) ∙ f)))

-- a cell that is taken apart
pub take_goes : (n : ℕ) (w : Written) (to : ℕ → ℕ) (code : List Instr) (cs : Contents) (r : ℕ) (ds : List ℕ) (v : Value) → n ≤ size w → HasFrom n (added w (I.Take r ds)) to code → cs r ≡ v → Reaches code (place (size w) cs) (place (size (added w (I.Take r ds))) (put_all cs ds (children v)))
take_goes n w to code cs r ds v le h e =
    to_next code w (I.Take r ds) (place (size w) cs) (put_all cs ds (children v))
    (goes_one code (place (size w) cs) (place (suc (size w)) (put_all cs ds (children v))) (I.Take r ds) (stands w (I.Take r ds) n to code le h)
    (ap (λ y. Some (place (suc (size w)) (put_all cs ds y))) (same_children (cs r) ∙ ap children e)))

-- a field that is read, where this isn't done yet
pub record ReadsOne (x y : Reading) (code : List Instr) (cs : Contents) (d : ℕ) (u : Value) : Type 0 where
  pub contents : Contents
  pub reaches : Reaches code (place (size x.written) cs) (place (size y.written) contents)
  pub there : contents d ≡ u
  pub outside : (q : ℕ) → (q ≡ d → ⊥) → contents q ≡ cs q
  pub more : (q : ℕ) → Among q x.read → Among q y.read
  pub new : (q : ℕ) → Among q y.read → Among q x.read ⊎ (q ≡ d)
  pub has : Among d y.read

pub read_if_goes : (b : Bool) (x : Reading) (n : ℕ) (to : ℕ → ℕ) (code : List Instr) (cs : Contents) (r i d : ℕ) (v u : Value) → contains d x.read ≡ b → n ≤ size x.written → HasFrom n (read_if b x r i d).written to code → cs r ≡ v → value_at (children v) i ≡ Some u → (Among d x.read → cs d ≡ u) → ReadsOne x (read_if b x r i d) code cs d u
read_if_goes true x n to code cs r i d v u c le h e f held = record {
  contents = cs;
  reaches = reaches_same code (place (size x.written) cs);
  there = held (contains_among d x.read c);
  outside = λ q ne. refl;
  more = λ q m. m;
  new = λ q m. inl m;
  has = contains_among d x.read c;
}
read_if_goes false x n to code cs r i d v u c le h e f held = record {
  contents = put cs d u;
  reaches = peek_goes n x.written to code cs r i d v u le h e f;
  there = put_same cs d u d refl;
  outside = λ q ne. put_other cs d u q ne;
  more = λ q m. Rattle.lowering_relation.proofs.MatchLists.among_left q x.read (d ∷ []) m;
  new = λ q m. by_side q (Rattle.lowering_relation.proofs.MatchLists.among_either q x.read (d ∷ []) m);
  has = Rattle.lowering_relation.proofs.MatchLists.among_right d x.read (d ∷ []) (inl refl);
}
  where
    by_side : (q : ℕ) → Among q x.read ⊎ Among q (d ∷ []) → Among q x.read ⊎ (q ≡ d)
    by_side q (inl a) = inl a
    by_side q (inr (inl e')) = inr e'
    by_side q (inr (inr z)) = absurd z

pub read_one_goes : (x : Reading) (n : ℕ) (to : ℕ → ℕ) (code : List Instr) (cs : Contents) (r i d : ℕ) (v u : Value) → n ≤ size x.written → HasFrom n (read_one x r i d).written to code → cs r ≡ v → value_at (children v) i ≡ Some u → (Among d x.read → cs d ≡ u) → ReadsOne x (read_one x r i d) code cs d u
read_one_goes x n to code cs r i d v u le h e f held = read_if_goes (contains d x.read) x n to code cs r i d v u refl le h e f held
