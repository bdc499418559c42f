-- The machine over nodes in a list goes as the machine over trees.
use Rattle.std.proofs.Common.{◌≡◌, ℕ, suc, ◌+◌, ◌-◌, ◌*◌, List, [], ◌∷◌, ◌++◌, length, take, Option, Some, None, Bool, true, false, refl, sym, ap, ap₂, ◌∙◌, append_assoc, length-append, arith}
use Rattle.std.specs.Prelude.{◌&&◌, ◌==◌, nat_lt, nat_le, if◌then◌else◌, option_map, slice_get}
use Rattle.std.proofs.lemmas.List.{append-nil}
use Rattle.fip_language.specs.declared.limits.TheConstants.{MOST_FIELDS}
use Rattle.fip_language.specs.Character.{is_digit}
use Rattle.fip_language.specs.Prefix.{or_stop, run}
use Rattle.derivation_trees.specs.declared.derivation.RuleName.{RuleName}
use Rattle.derivation_trees.specs.declared.derivation.Credit.{Credit}
use Rattle.derivation_trees.specs.Trees.{Tree, Missing, Branch, Trees, NoTrees, MoreTrees, Head, count, size, size_all, flat, flat_all}
use Rattle.derivation_trees.specs.Building.{Built, alter, innermost, with_part, with_span, opened, closed_at, closed}
use Rattle.derivation_text.specs.declared.spot.Spot.{Spot}
use Rattle.derivation_text.specs.declared.spot.Spot.TheVariants as S
use Rattle.derivation_text.specs.ProofText.{GREATEST, DEEPEST}
use Rattle.derivation_text.specs.Machine.{begins, flats, State, rule_at, is_match, going, pass_line, act_rule, act_name, pass_variable, pass_size, pass_count, to_parts, with_credit, act_node, act_head, act, step, start, final}
use Rattle.derivation_text.proofs.Residual.{Zipper, Roots, Part, join, snoc, add, close, depth, open_head, front, zippers}
use Rattle.fip_language.proofs.Facts.{take_last}

-- ---- lists

alter_after : (f : Head → Head) (xs : List Head) (h : Head) (ys : List Head) → alter f (length xs) (xs ++ h ∷ ys) ≡ xs ++ f h ∷ ys
alter_after f [] h ys = refl
alter_after f (x ∷ xs) h ys = ap (λ zs. x ∷ zs) (alter_after f xs h ys)

get_last : (xs : List ℕ) (x : ℕ) → innermost (xs ++ x ∷ []) ≡ Some x
get_last xs x = (let l = length-append xs (x ∷ []) in let e : length (xs ++ x ∷ []) - 1 ≡ length xs = omega (arith, l) in ap (slice_get (xs ++ x ∷ [])) e) ∙ at xs
  where
    at : (xs : List ℕ) → slice_get (xs ++ x ∷ []) (length xs) ≡ Some x
    at [] = refl
    at (y ∷ xs) = at xs

-- ---- trees in lists

join_flat : (ts us : Trees) → flat_all (join ts us) ≡ flat_all ts ++ flat_all us
join_flat NoTrees us = refl
join_flat (MoreTrees t ts) us = ap (λ hs. flat t ++ hs) (join_flat ts us) ∙ sym (append_assoc (flat t) (flat_all ts) (flat_all us))

snoc_flat : (ts : Trees) (t : Tree) → flat_all (snoc ts t) ≡ flat_all ts ++ flat t
snoc_flat ts t = join_flat ts (MoreTrees t NoTrees) ∙ ap (λ hs. flat_all ts ++ hs) (append-nil (flat t))

snoc_count : (ts : Trees) (t : Tree) → count (snoc ts t) ≡ suc (count ts)
snoc_count NoTrees t = refl
snoc_count (MoreTrees u ts) t = ap suc (snoc_count ts t)

mutual
  pub flat_length : (t : Tree) → length (flat t) ≡ size t
  flat_length Missing = refl
  flat_length (Branch r vs cs ts) = ap suc (flats_length ts)

  pub flats_length : (ts : Trees) → length (flat_all ts) ≡ size_all ts
  flats_length NoTrees = refl
  flats_length (MoreTrees t ts) = length-append (flat t) (flat_all ts) ∙ ap₂ (λ a b. a + b) (flat_length t) (flats_length ts)

-- ---- builders

abbrev pub places : Zipper → List ℕ
places (Roots ds) = []
places (Part r vs cs ds o) = places o ++ length (front o 1) ∷ []

abbrev pub flatten : Zipper → Built
flatten z = record { nodes = front z 0; open_at = places z }

places_depth : (z : Zipper) → length (places z) ≡ depth z
places_depth (Roots ds) = refl
places_depth (Part r vs cs ds o) = (let l = length-append (places o) (length (front o 1) ∷ []) in let d = places_depth o in omega (arith, l, d))

front_length : (z : Zipper) (m n : ℕ) → length (front z m) ≡ length (front z n)
front_length (Roots ds) m n = refl
front_length (Part r vs cs ds o) m n = length-append (front o 1) (open_head r vs cs (count ds + m) ∷ flat_all ds) ∙ sym (length-append (front o 1) (open_head r vs cs (count ds + n) ∷ flat_all ds))

open_flat : (z : Zipper) (r : RuleName) (vs : List ℕ) (cs : List Credit) → opened (flatten z) r vs cs ≡ flatten (Part r vs cs NoTrees z)
open_flat (Roots ds) r vs cs = refl
open_flat (Part q us bs ds o) r vs cs =
    let z = Part q us bs ds o in
    let i = length (front o 1) in
    let c : (count ds + 0) + 1 ≡ count ds + 1 = omega arith in
    let e : alter with_part i (front z 0) ≡ front z 1 = alter_after with_part (front o 1) (open_head q us bs (count ds + 0)) (flat_all ds) ∙ ap (λ n. front o 1 ++ open_head q us bs n ∷ flat_all ds) c in
    ap₂ (λ hs k. record { nodes = hs ++ open_head r vs cs 0 ∷ []; open_at = places z ++ k ∷ [] })
    (ap (λ o. Rattle.derivation_trees.specs.Building.alter_at with_part o (front z 0)) (get_last (places o) i) ∙ e) (front_length z 0 1)

front_add : (z : Zipper) (t : Tree) → front (add z t) 0 ≡ front z 1 ++ flat t
front_add (Roots ds) t = snoc_flat ds t
front_add (Part r vs cs ds o) t =
    let c : count (snoc ds t) + 0 ≡ count ds + 1 = (let e = snoc_count ds t in omega (arith, e)) in
    ap₂ (λ n hs. front o 1 ++ open_head r vs cs n ∷ hs) c (snoc_flat ds t) ∙ sym (append_assoc (front o 1) (open_head r vs cs (count ds + 1) ∷ flat_all ds) (flat t))

places_add : (z : Zipper) (t : Tree) → places (add z t) ≡ places z
places_add (Roots ds) t = refl
places_add (Part r vs cs ds o) t = refl

close_flat : (z : Zipper) → closed (flatten z) ≡ flatten (close z)
close_flat (Roots ds) = refl
close_flat (Part r vs cs ds o) =
    let t = Branch r vs cs ds in
    let z = Part r vs cs ds o in
    let i = length (front o 1) in
    let h = open_head r vs cs (count ds + 0) in
    let l = length-append (front o 1) (h ∷ flat_all ds) in
    let k = flats_length ds in
    let n : length (front z 0) - i ≡ suc (size_all ds) = omega (arith, l, k) in
    let c : count ds + 0 ≡ count ds = omega arith in
    let e : alter (with_span (length (front z 0) - i)) i (front z 0) ≡ front (add o t) 0 =
    alter_after (with_span (length (front z 0) - i)) (front o 1) h (flat_all ds)
    ∙ ap₂ (λ n m. front o 1 ++ record { rule = r; variables = vs; credits = cs; parts = m; span = n } ∷ flat_all ds) n c
    ∙ sym (front_add o t) in
    ap (λ o. closed_at o (flatten z)) (get_last (places o) i)
    ∙ ap₂ (λ hs ps. record { nodes = hs; open_at = ps }) e (take_last (places o) i ∙ sym (places_add o t))

-- ---- states

abbrev pub to : State Zipper → State Built
to s = record {
  spot = s.spot;
  lines = s.lines;
  least = s.least;
  number = s.number;
  instance = s.instance;
  nodes = flatten s.nodes;
  rule = s.rule;
  letters = s.letters;
  variables = s.variables;
  credits = s.credits;
  size = s.size;
}

abbrev Same : Option (State Built) → Option (State Zipper) → Type 0
Same o p = o ≡ option_map to p

if_same : (c : Bool) (a b : Option (State Zipper)) {p q : Option (State Built)} → Same p a → Same q b → Same (if c then p else q) (if c then a else b)
if_same true a b h k = h
if_same false a b h k = k

other_same : (c d : Bool) (a b : Option (State Zipper)) {p q : Option (State Built)} → d ≡ c → Same p a → Same q b → Same (if d then p else q) (if c then a else b)
other_same c d a b {p = p} {q = q} e h k = ap (λ c. if c then p else q) e ∙ if_same c a b h k

going_same : (most : ℕ) (pass : State Built → ℕ → Option (State Built)) (pass' : State Zipper → ℕ → Option (State Zipper)) (s : State Zipper) (b : ℕ) → Same (pass (to s) b) (pass' s b) → Same (going flats most pass (to s) b) (going zippers most pass' s b)
going_same most pass pass' s b h =
    if_same (is_digit b) _ _
    (if_same (s.number == 0) _ _ refl (if_same (begins (10 * s.number + (b - 48)) s.least most) _ _ refl refl))
    (if_same (nat_le s.least s.number && nat_le s.number most) _ _ h refl)

to_nodes : (s : State Zipper) (z : Zipper) (b : Built) → b ≡ flatten z → record (to s) { nodes = b } ≡ to (record s { nodes = z })
to_nodes s z b e = ap (λ b. record (to s) { nodes = b }) e

rule_same : (o : Option RuleName) (s : State Zipper) → Same (act_rule flats o (to s)) (act_rule zippers o s)
rule_same None s = refl
rule_same (Some r) s = refl

name_same : (letters : List ℕ) (s : State Zipper) (b : ℕ) → Same (act_name flats letters (to s) b) (act_name zippers letters s b)
name_same [] s b = if_same (b == 91) _ _ refl (if_same ((b == 33) && is_match s.rule) _ _ refl refl)
name_same (c ∷ letters) s b = if_same (b == c) _ _ refl refl

parts_same : (s : State Zipper) → Same (to_parts flats (to s)) (to_parts zippers s)
parts_same s = ap Some (to_nodes (record s { spot = S.Head; variables = []; credits = [] }) (Part s.rule s.variables s.credits NoTrees s.nodes) (opened (flatten s.nodes) s.rule s.variables s.credits) (open_flat s.nodes s.rule s.variables s.credits))

node_same : (s : State Zipper) (b : ℕ) → Same (act_node flats (to s) b) (act_node zippers s b)
node_same s b =
    other_same (depth s.nodes == 0) (length (flatten s.nodes).open_at == 0) _ _ (ap (λ n. n == 0) (places_depth s.nodes))
    (if_same (b == 10) _ _ refl refl)
    (if_same (b == 44) _ _ refl (if_same (b == 41) _ _ (ap Some (to_nodes (record s { spot = S.Node }) (close s.nodes) (closed (flatten s.nodes)) (close_flat s.nodes))) refl))

head_same : (s : State Zipper) (b : ℕ) → Same (act_head flats (to s) b) (act_head zippers s b)
head_same s b =
    if_same (b == 40) _ _
    (other_same (nat_lt (depth s.nodes) DEEPEST) (nat_lt (length (flatten s.nodes).open_at) DEEPEST) _ _ (ap (λ n. nat_lt n DEEPEST) (places_depth s.nodes)) refl refl)
    (ap (λ t. act_node flats t b) (to_nodes s (close s.nodes) (closed (flatten s.nodes)) (close_flat s.nodes)) ∙ node_same (record s { nodes = close s.nodes }) b)

act_same : (k : Spot) (s : State Zipper) (b : ℕ) → Same (act flats k (to s) b) (act zippers k s b)
act_same S.Line s b = if_same (is_digit b && begins (b - 48) s.least GREATEST) _ _ refl refl
act_same S.LineNumber s b = going_same GREATEST (pass_line flats) (pass_line zippers) s b (if_same (b == 32) _ _ refl refl)
act_same S.Rule s b = rule_same (rule_at b) s
act_same S.Name s b = name_same s.letters s b
act_same S.Variables s b = if_same (b == 124) _ _ refl (if_same (is_digit b && begins (b - 48) s.least GREATEST) _ _ refl refl)
act_same S.Variable s b = if_same (is_digit b && begins (b - 48) s.least GREATEST) _ _ refl refl
act_same S.VariableNumber s b = going_same GREATEST (pass_variable flats) (pass_variable zippers) s b (if_same (b == 124) _ _ refl (if_same ((b == 32) && nat_lt s.number GREATEST) _ _ refl refl))
act_same S.Credits s b = if_same (b == 93) _ _ (parts_same s) (if_same (is_digit b && begins (b - 48) s.least MOST_FIELDS) _ _ refl refl)
act_same S.Size s b = if_same (is_digit b && begins (b - 48) s.least MOST_FIELDS) _ _ refl refl
act_same S.SizeNumber s b = going_same MOST_FIELDS (pass_size flats) (pass_size zippers) s b (if_same (b == 58) _ _ refl refl)
act_same S.Count s b = if_same (is_digit b && begins (b - 48) s.least GREATEST) _ _ refl refl
act_same S.CountNumber s b = going_same GREATEST (pass_count flats) (pass_count zippers) s b (if_same (b == 93) _ _ (parts_same (with_credit zippers s)) (if_same ((b == 32) && nat_lt s.size MOST_FIELDS) _ _ refl refl))
act_same S.Head s b = head_same s b
act_same S.Node s b = node_same s b

-- ---- runs

pub run_same : (bs : List ℕ) (s : State Zipper) (at : ℕ) → run (step flats) final (to s) bs at ≡ run (step zippers) final s bs at
run_same [] s at = refl
run_same (b ∷ bs) s at = ap (λ o. or_stop o at (λ s. run (step flats) final s bs (at + 1))) (act_same s.spot s b) ∙ rest (step zippers s b) (λ s. run_same bs s (at + 1))
  where
    rest : (o : Option (State Zipper)) → ((s : State Zipper) → run (step flats) final (to s) bs (at + 1) ≡ run (step zippers) final s bs (at + 1)) → or_stop (option_map to o) at (λ s. run (step flats) final s bs (at + 1)) ≡ or_stop o at (λ s. run (step zippers) final s bs (at + 1))
    rest None h = refl
    rest (Some s) h = h s

-- from the first byte on
pub starts_same : (bs : List ℕ) → run (step flats) final (start flats) bs 0 ≡ run (step zippers) final (start zippers) bs 0
starts_same bs = run_same bs (start zippers) 0
