-- The head that is found is the least that may occur at a position, and one is found.
use Rattle.std.proofs.Common.{◌≡◌, ◌⊎◌, inl, inr, get_or, ℕ, zero, suc, ◌+◌, ◌<◌, ◌≤◌, ◌^◌, List, [], ◌∷◌, length, Option, Some, None, Bool, true, false, refl, sym, ap, ◌∙◌, subst, arith}
use Rattle.std.specs.Prelude.{if◌then◌else◌, slice_get, pos, negsuc}
use Rattle.fip_language.specs.Values.{Value, Int, Node}
use Rattle.std.proofs.lemmas.Option.{slice_get_within}
use Rattle.fip_language.specs.Table.{Shape, Table, shapes, constructors, HasType}
use Rattle.fip_language.specs.PrintedText.{shape_at}
use Rattle.fip_base.specs.TableView.{fields_at as shape_fields}
use Rattle.match_knowledge.specs.declared.heads.Head.{Head}
use Rattle.match_knowledge.specs.declared.heads.Head.TheVariants.{Number, Tag}
use Rattle.match_knowledge.specs.ValueHeads.{same_head, IsHead}
use Rattle.match_knowledge.specs.Patterns.{Pattern, Any, Test}
use Rattle.match_knowledge.specs.Known.{Known, Open, Is, is_in, agree_all}
use Rattle.match_knowledge.specs.Left.{Left, IsMatch, IsSearch, Reports}
use Rattle.match_knowledge.proofs.Facts.{same_refl, both_and}
use Rattle.match_knowledge.proofs.Fewer.{rows_most}
use Rattle.match_knowledge.proofs.Fresh.{fresh}
use Rattle.match_knowledge.proofs.Living.{head_values}
use Rattle.match_cover.specs.Missing.{open_fields, CanStand, Before, MayBe}
use Rattle.match_cover.specs.MissingSearch.{full, IsPosition, Tried, NoNumber, LeastNumber, NoTag, LeastTag, FindsHead, head_fields}
use Rattle.match_cover.proofs.Positions.{is_named, unnamed_weaker, agree_open, open_alive}
use Rattle.fip_language.proofs.Facts.{less_or_last as below_or_at}

named_heads : List Pattern → List Head
named_heads [] = []
named_heads (Any ∷ ps) = named_heads ps
named_heads (Test u g qs ∷ ps) = g ∷ named_heads ps

named_is : (h : Head) (here : List Pattern) → is_named h here ≡ is_in h (named_heads here)
unfolding named_heads
named_is h [] = refl
named_is h (Any ∷ ps) = named_is h ps
named_is h (Test u g qs ∷ ps) = ap (λ z. if same_head g h then true else z) (named_is h ps)

few_named : (here : List Pattern) → length (named_heads here) ≤ length here
unfolding named_heads
few_named [] = omega arith
few_named (Any ∷ ps) = let r = few_named ps in omega arith
few_named (Test u g qs ∷ ps) = let r = few_named ps in omega arith

tried_search : (tb : Table) (root : ℕ) (rows : List Pattern) (at : Known → Known) (t : ℕ) (here : List Pattern) (h : Head) (fs : List ℕ) → IsMatch tb root rows → IsPosition tb root rows at t here → IsHead tb t h fs → IsSearch tb root rows (at (Is h (open_fields fs)))
tried_search tb root rows at t here h fs m p i = record {
  tidy = m.tidy;
  typed = m.typed;
  room = (0, (let a = rows_most rows (at (Is h (open_fields fs))) in let b = m.few in omega arith), p.alive (Is h (open_fields fs)) (fs, i, open_alive tb fs (head_values tb t h fs m.tidy i)));
}

-- what a try says
says : (tb : Table) (root : ℕ) (rows : List Pattern) (at : Known → Known) (t : ℕ) (here : List Pattern) (h : Head) (fs : List ℕ) (b : Bool) → IsMatch tb root rows → IsPosition tb root rows at t here → IsHead tb t h fs → Tried tb rows at h fs b → Reports b (Left tb root rows (at (Is h (open_fields fs))))
says tb root rows at t here h fs b m p i a = a root (tried_search tb root rows at t here h fs m p i)

pub record Chosen (tb : Table) (root : ℕ) (rows : List Pattern) (at : Known → Known) (t : ℕ) (h : Head) : Type 0 where
  pub can : CanStand h
  pub least : (g : Head) → Before g h → MayBe tb root rows at t g → ⊥
  pub head : IsHead tb t h (head_fields tb t h)
  pub left : Left tb root rows (at (Is h (open_fields (head_fields tb t h))))

-- a number below n
no_less_number : (tb : Table) (root : ℕ) (rows : List Pattern) (at : Known → Known) (here : List Pattern) (n : ℕ) → IsMatch tb root rows → IsPosition tb root rows at zero here → NoNumber tb rows at n → (g : Head) → Before g (Number (pos n)) → MayBe tb root rows at zero g → ⊥
no_less_number tb root rows at here n m p f (Number (pos k)) b y =
    let i = y.1 in
    let t = says tb root rows at zero here (Number (pos k)) [] false m p (i.0, refl) (f k b) in
    t.1 refl (subst (λ z. Left tb root rows (at (Is (Number (pos k)) (open_fields z)))) i.1 y.2)
no_less_number tb root rows at here n m p f (Number (negsuc k)) b y = absurd b
no_less_number tb root rows at here n m p f (Tag c) b y = absurd b

no_less_tag : (tb : Table) (root : ℕ) (rows : List Pattern) (at : Known → Known) (t : ℕ) (here : List Pattern) (c : ℕ) → IsMatch tb root rows → IsPosition tb root rows at (suc t) here → NoTag tb rows at (shapes tb t) c → (g : Head) → Before g (Tag c) → MayBe tb root rows at (suc t) g → ⊥
no_less_tag tb root rows at t here c m p f (Number i) b y = absurd y.1
no_less_tag tb root rows at t here c m p f (Tag d) b y =
    let i = y.1 in
    let s = i.0 in
    let r = says tb root rows at (suc t) here (Tag d) s.fields false m p (s, i.1, refl) (f d s b i.1) in
    r.1 refl (subst (λ z. Left tb root rows (at (Is (Tag d) (open_fields z)))) (sym i.2) y.2)

field_types : (ss : List Shape) (c : ℕ) (s : Shape) → slice_get ss c ≡ Some s → shape_fields ss c ≡ s.fields
field_types [] c s e = cc
field_types (x ∷ xs) zero s e = let z : x ≡ s = cc in ap (λ (r : Shape). r.fields) z
field_types (x ∷ xs) (suc c) s e = field_types xs c s e

number_chosen : (tb : Table) (root : ℕ) (rows : List Pattern) (at : Known → Known) (here : List Pattern) (end : ℕ) (h : Head) → IsMatch tb root rows → IsPosition tb root rows at zero here → end ≤ 2 ^ 63 → LeastNumber tb rows at end (Some h) → Chosen tb root rows at zero h
number_chosen tb root rows at here end h m p e l =
    let i : IsHead tb zero (Number (pos l.0)) [] = (let a = l.1 in omega arith, refl) in
    let t = says tb root rows at zero here (Number (pos l.0)) [] true m p i l.3 in
    let r : Chosen tb root rows at zero (Number (pos l.0)) = record { can = tt; least = no_less_number tb root rows at here l.0 m p l.4; head = i; left = t.0 refl } in
    subst (Chosen tb root rows at zero) (sym l.2) r

tag_chosen : (tb : Table) (root : ℕ) (rows : List Pattern) (at : Known → Known) (t : ℕ) (here : List Pattern) (h : Head) → IsMatch tb root rows → IsPosition tb root rows at (suc t) here → LeastTag tb rows at (shapes tb t) (Some h) → Chosen tb root rows at (suc t) h
tag_chosen tb root rows at t here h m p l =
    let c = l.0 in
    let s = l.1 in
    let f = field_types (shapes tb t) c s l.2 in
    let a = says tb root rows at (suc t) here (Tag c) s.fields true m p (s, l.2, refl) l.4 in
    let r : Chosen tb root rows at (suc t) (Tag c) = record {
      can = tt;
      least = no_less_tag tb root rows at t here c m p l.5;
      head = (s, l.2, sym f);
      left = subst (λ z. Left tb root rows (at (Is (Tag c) (open_fields z)))) (sym f) (a.0 refl);
    } in
    subst (Chosen tb root rows at (suc t)) (sym l.3) r

zero_not : (t : ℕ) → suc t ≡ 0 → ⊥
zero_not t e = omega arith

pub head_chosen : (tb : Table) (root : ℕ) (rows : List Pattern) (at : Known → Known) (t : ℕ) (here : List Pattern) (end : ℕ) (h : Head) → IsMatch tb root rows → IsPosition tb root rows at t here → end ≤ 2 ^ 63 → FindsHead tb rows at t end (Some h) → Chosen tb root rows at t h
head_chosen tb root rows at zero here end h m p e f = number_chosen tb root rows at here end h m p e (f.number refl)
head_chosen tb root rows at (suc t) here end h m p e f = tag_chosen tb root rows at t here h m p (f.tag (zero_not t))

-- one is found
no_number : (tb : Table) (root : ℕ) (rows : List Pattern) (at : Known → Known) (here : List Pattern) (end : ℕ) → IsMatch tb root rows → IsPosition tb root rows at zero here → length here < end → end ≤ 2 ^ 63 → NoNumber tb rows at end → Left tb root rows (at (Open [])) → ⊥
no_number tb root rows at here end m p l e f u =
    let w = p.value (Open []) u in
    let n = fresh (length here) (named_heads here) (few_named here) in
    let fits : IsHead tb zero (Number (pos n.0)) [] = (let a = n.1 in omega arith, refl) in
    let left = p.weaker w.0 (Int (pos n.0)) w.1 fits.0 (unnamed_weaker here w.0 (Int (pos n.0)) (named_is (Number (pos n.0)) here ∙ n.2)) w.3 in
    let t = says tb root rows at zero here (Number (pos n.0)) [] false m p fits (f n.0 (let a = n.1 in omega arith)) in
    t.1 refl left

no_tag : (tb : Table) (root : ℕ) (rows : List Pattern) (at : Known → Known) (t : ℕ) (here : List Pattern) → IsMatch tb root rows → IsPosition tb root rows at (suc t) here → LeastTag tb rows at (shapes tb t) None → (w : Value) → HasType tb (suc t) w → Left tb root rows (at (full w)) → ⊥
no_tag tb root rows at t here m p f (Int i) h u = absurd h
no_tag tb root rows at t here m p f (Node d vs) h u =
    let s = h.0 in
    let r = says tb root rows at (suc t) here (Tag d) s.fields false m p (s, h.1, refl) (f d s h.1) in
    r.1 refl (p.among (Is (Tag d) (open_fields s.fields)) (Node d vs) h (both_and (same_head (Tag d) (Tag d)) (agree_all (open_fields s.fields) vs) (same_refl (Tag d)) (agree_open s.fields vs)) u)

pub no_head : (tb : Table) (root : ℕ) (rows : List Pattern) (at : Known → Known) (t : ℕ) (here : List Pattern) (end : ℕ) → IsMatch tb root rows → IsPosition tb root rows at t here → length here < end → end ≤ 2 ^ 63 → FindsHead tb rows at t end None → Left tb root rows (at (Open [])) → ⊥
no_head tb root rows at zero here end m p l e f u = no_number tb root rows at here end m p l e (f.number refl) u
no_head tb root rows at (suc t) here end m p l e f u = let w = p.value (Open []) u in no_tag tb root rows at t here m p (f.tag (zero_not t)) w.0 w.1 w.3

-- ---- the search, step by step

pub no_numbers : (tb : Table) (rows : List Pattern) (at : Known → Known) → NoNumber tb rows at 0
no_numbers tb rows at m l = absurd (omega arith)

pub number_next : (tb : Table) (rows : List Pattern) (at : Known → Known) (n : ℕ) (h : Head) (b : Bool) → h ≡ Number (pos n) → b ≡ false → Tried tb rows at h [] b → NoNumber tb rows at n → NoNumber tb rows at (n + 1)
number_next tb rows at n h b i e a f m l = step (below_or_at m n l) where
  tried : Tried tb rows at (Number (pos n)) [] false
  tried = subst (λ z. Tried tb rows at z [] false) i (subst (Tried tb rows at h []) e a)

  step : ((m < n) ⊎ (m ≡ n)) → Tried tb rows at (Number (pos m)) [] false
  step (inl k) = f m k
  step (inr k) = subst (λ z. Tried tb rows at (Number (pos z)) [] false) (sym k) tried

pub number_found : (tb : Table) (rows : List Pattern) (at : Known → Known) (end n : ℕ) (h : Head) (b : Bool) → h ≡ Number (pos n) → n < end → b ≡ true → Tried tb rows at h [] b → NoNumber tb rows at n → LeastNumber tb rows at end (Some h)
number_found tb rows at end n h b i l e a f = (n, l, i, subst (λ z. Tried tb rows at z [] true) i (subst (Tried tb rows at h []) e a), f)

pub number_none : (tb : Table) (rows : List Pattern) (at : Known → Known) (end n : ℕ) → end ≤ n → NoNumber tb rows at n → LeastNumber tb rows at end None
number_none tb rows at end n l f m h = f m (omega arith)

pub no_tags : (tb : Table) (rows : List Pattern) (at : Known → Known) (ss : List Shape) → NoTag tb rows at ss 0
no_tags tb rows at ss d s l e = absurd (omega arith)

same_at : (ss : List Shape) (c : ℕ) (s : Shape) → c < length ss → s ≡ get_or ss c s → slice_get ss c ≡ Some s
same_at [] c s l e = absurd (omega arith)
same_at (x ∷ xs) zero s l e = ap Some (sym e)
same_at (x ∷ xs) (suc c) s l e = same_at xs c s (omega arith) e

pub tag_next : (tb : Table) (rows : List Pattern) (at : Known → Known) (ss : List Shape) (c : ℕ) (s : Shape) (fs : List ℕ) (b : Bool) → c < length ss → s ≡ get_or ss c s → fs ≡ s.fields → b ≡ false → Tried tb rows at (Tag c) fs b → NoTag tb rows at ss c → NoTag tb rows at ss (c + 1)
tag_next tb rows at ss c s fs b l g w e a f d r h i = step (below_or_at d c h) where
  tried : Tried tb rows at (Tag c) s.fields false
  tried = subst (λ z. Tried tb rows at (Tag c) z false) w (subst (Tried tb rows at (Tag c) fs) e a)

  step : ((d < c) ⊎ (d ≡ c)) → Tried tb rows at (Tag d) r.fields false
  step (inl k) = f d r k i
  step (inr k) =
      let q : s ≡ r = (let z = sym (same_at ss c s l g) ∙ ap (slice_get ss) (sym k) ∙ i in cc) in
      subst (λ (z : Shape). Tried tb rows at (Tag d) z.fields false) q (subst (λ z. Tried tb rows at (Tag z) s.fields false) (sym k) tried)

pub tag_found : (tb : Table) (rows : List Pattern) (at : Known → Known) (ss : List Shape) (c : ℕ) (s : Shape) (fs : List ℕ) (b : Bool) → c < length ss → s ≡ get_or ss c s → fs ≡ s.fields → b ≡ true → Tried tb rows at (Tag c) fs b → NoTag tb rows at ss c → LeastTag tb rows at ss (Some (Tag c))
tag_found tb rows at ss c s fs b l g w e a f = (c, s, same_at ss c s l g, refl, subst (λ z. Tried tb rows at (Tag c) z true) w (subst (Tried tb rows at (Tag c) fs) e a), f)

pub tag_none : (tb : Table) (rows : List Pattern) (at : Known → Known) (ss : List Shape) (c : ℕ) → length ss ≤ c → NoTag tb rows at ss c → LeastTag tb rows at ss None
tag_none tb rows at ss c l f d s e = f d s (let w = slice_get_within ss d s e in omega arith) e

pub number_head : (tb : Table) (rows : List Pattern) (at : Known → Known) (t end : ℕ) (o : Option Head) → t ≡ 0 → LeastNumber tb rows at end o → FindsHead tb rows at t end o
number_head tb rows at t end o e l = record { number = λ z. l; tag = λ f. absurd (f e) }

pub tag_head : (tb : Table) (rows : List Pattern) (at : Known → Known) (t end : ℕ) (ss : List Shape) (o : Option Head) → (t ≡ 0 → ⊥) → ss ≡ constructors tb t → LeastTag tb rows at ss o → FindsHead tb rows at t end o
tag_head tb rows at t end ss o n e l = record { number = λ z. absurd (n z); tag = λ f. subst (λ z. LeastTag tb rows at z o) e l }

-- ---- what a constructor has

field_none : (ss : List Shape) (c : ℕ) → length ss ≤ c → shape_fields ss c ≡ []
field_none [] c l = refl
field_none (x ∷ xs) zero l = absurd (omega arith)
field_none (x ∷ xs) (suc c) l = field_none xs c (omega arith)

pub fields_none : (tb : Table) (t : ℕ) (h : Head) (c : ℕ) (ss : List Shape) → h ≡ Tag c → ss ≡ constructors tb t → length ss ≤ c → ◌≡◌ {A = List ℕ} [] (head_fields tb t h)
fields_none tb t h c ss i e l = sym (ap (head_fields tb t) i ∙ ap (λ z. shape_fields z c) (sym e) ∙ field_none ss c l)

pub fields_some : (tb : Table) (t : ℕ) (h : Head) (c : ℕ) (ss : List Shape) (s : Shape) (fs : List ℕ) → h ≡ Tag c → ss ≡ constructors tb t → c < length ss → s ≡ get_or ss c s → fs ≡ s.fields → fs ≡ head_fields tb t h
fields_some tb t h c ss s fs i e l g w = w ∙ sym (ap (head_fields tb t) i ∙ ap (λ z. shape_fields z c) (sym e) ∙ field_types ss c s (same_at ss c s l g))

shape_none : (ss : List Shape) (c : ℕ) → length ss ≤ c → (shape_at ss c).name ≡ []
shape_none [] c l = refl
shape_none (x ∷ xs) zero l = absurd (omega arith)
shape_none (x ∷ xs) (suc c) l = shape_none xs c (omega arith)

shape_some : (ss : List Shape) (c : ℕ) (s : Shape) → c < length ss → s ≡ get_or ss c s → shape_at ss c ≡ s
shape_some [] c s l e = absurd (omega arith)
shape_some (x ∷ xs) zero s l e = sym e
shape_some (x ∷ xs) (suc c) s l e = shape_some xs c s (omega arith) e

pub name_none : (tb : Table) (t c : ℕ) (ss : List Shape) → ss ≡ constructors tb t → length ss ≤ c → ◌≡◌ {A = List ℕ} [] (shape_at (constructors tb t) c).name
name_none tb t c ss e l = sym (ap (λ z. (shape_at z c).name) (sym e) ∙ shape_none ss c l)

pub name_some : (tb : Table) (t c : ℕ) (ss : List Shape) (s : Shape) (n : List ℕ) → ss ≡ constructors tb t → c < length ss → s ≡ get_or ss c s → n ≡ s.name → n ≡ (shape_at (constructors tb t) c).name
name_some tb t c ss s n e l g w = w ∙ ap (λ (z : Shape). z.name) (sym (shape_some ss c s l g)) ∙ ap (λ z. (shape_at z c).name) e
