-- What waits.
use Rattle.std.proofs.Common.{◌≡◌, ◌≢◌, ℕ, zero, suc, ◌+◌, ◌≤◌, List, [], ◌∷◌, ◌++◌, map, length, drop, get_or, ◌-◌, Some, None, refl, sym, ap, ◌∙◌, arith}
use Rattle.std.specs.Prelude.{slice_get}
use Rattle.fip_trees.specs.fip_language.Values.{Values}
use Rattle.fip_trees.specs.fip_language.Meaning.{Answer, Gives, Trap, Out, Deep, Stuck, Run, go_on, then_with}
use Rattle.fip_trees.specs.Tree as T
use Rattle.fip_trees.specs.TreeView.{BoundPart, expression, block, block_of, binding}
use Rattle.fip_trees.specs.declared.program.Block.{Block, out-Block}
use Rattle.fip_trees.specs.declared.program.Binding.{Binding, out-Binding}
use Rattle.fip_trees.proofs.TreeViews.{block_is, binding_is}
use Rattle.plain_rows.specs.declared.store.Value.{Value}
use Rattle.plain_rows.specs.declared.store.Store.{Store}
use Rattle.plain_eval.specs.declared.evaluate.Waiting.{Waiting}
use Rattle.plain_eval.specs.Slots.{Covers, Keeps}
use Rattle.plain_eval.specs.Machine.{rest_of, Held, waiting_of, handed, resume, last_end, AllHeld, waiting_size}
use Rattle.plain_eval.specs.Work.{block_size}
use Rattle.plain_eval.proofs.Slots.{kept_some}
use Rattle.fip_base.proofs.fip_language.Facts.{drop_at_next as drop_get, drop_of_none as drop_past, get_map}

-- ---- answers

pub resume_push : (p : T.Program) (hs : List Held) (h : Held) (a : Answer) → resume p (hs ++ h ∷ []) a ≡ resume p hs (handed p h a)
unfolding resume
resume_push p [] h a = refl
resume_push p (g ∷ hs) h a = ap (handed p g) (resume_push p hs h a)

pub resume_none : (p : T.Program) (a : Answer) → resume p [] a ≡ a
unfolding resume
resume_none p a = refl

pub resume_trap : (p : T.Program) (hs : List Held) (a : Answer) → ((h : Held) → handed p h a ≡ a) → resume p hs a ≡ a
unfolding resume
resume_trap p [] a f = refl
resume_trap p (h ∷ hs) a f = ap (handed p h) (resume_trap p hs a f) ∙ f h

pub not_stuck : (p : T.Program) (hs : List Held) (a : Answer) → a ≢ Stuck → resume p hs Stuck ≡ a → ⊥
not_stuck p hs a f e = f (sym e ∙ resume_trap p hs Stuck (λ h. refl))

-- what a let gives is what its bound expression gives, handed on
pub let_answer : (p : T.Program) (h : Held) (r : Run) (go : Values → ℕ → Run) → ((vs : Values) (left : ℕ) → (go vs left).answer ≡ handed p h (Gives vs left)) → (then_with r go).answer ≡ handed p h r.answer
let_answer p h r go f = by r.answer where
  by : (x : Answer) → (go_on x go).answer ≡ handed p h x
  by (Gives vs left) = f vs left
  by (Trap kind line col) = refl
  by Out = refl
  by Deep = refl
  by Stuck = refl

-- ---- slots

above : (s : Store) (ws : List Value) (low : ℕ) (hs : List Held) → AllHeld s ws low hs → low ≤ last_end low (map waiting_of hs)
unfolding AllHeld last_end
above s ws low [] h = omega arith
above s ws low (g ∷ hs) h = let l = h.0 in let k = above s ws g.waiting.end hs h.2 in omega (arith, l, k)

pub held_some : (s t : Store) (ws us : List Value) (low : ℕ) (hs : List Held) → Keeps (last_end low (map waiting_of hs)) s ws t us → AllHeld s ws low hs → AllHeld t us low hs
unfolding AllHeld last_end
held_some s t ws us low [] k h = h
held_some s t ws us low (g ∷ hs) k h =
    (h.0, kept_some s t ws us (last_end g.waiting.end (map waiting_of hs)) g.waiting.base g.waiting.end g.env (above s ws g.waiting.end hs h.2) k h.1, held_some s t ws us g.waiting.end hs k h.2)

pub held_push : (s : Store) (ws : List Value) (low : ℕ) (hs : List Held) (h : Held) → AllHeld s ws low hs → last_end low (map waiting_of hs) ≤ h.waiting.end → Covers s ws h.waiting.base h.waiting.end h.env → AllHeld s ws low (hs ++ h ∷ [])
unfolding AllHeld last_end
held_push s ws low [] h a l c = (l, c, tt)
held_push s ws low (g ∷ hs) h a l c = (a.0, a.1, held_push s ws g.waiting.end hs h a.2 l c)

pub held_pop : (s : Store) (ws : List Value) (low : ℕ) (hs : List Held) (h : Held) → AllHeld s ws low (hs ++ h ∷ []) → AllHeld s ws low hs × (last_end low (map waiting_of hs) ≤ h.waiting.end) × Covers s ws h.waiting.base h.waiting.end h.env
unfolding AllHeld last_end
held_pop s ws low [] h a = (tt, a.0, a.1)
held_pop s ws low (g ∷ hs) h a = let k = held_pop s ws g.waiting.end hs h a.2 in ((a.0, a.1, k.0), k.1, k.2)

pub last_push : (low : ℕ) (ws : List Waiting) (w : Waiting) → last_end low (ws ++ w ∷ []) ≡ w.end
unfolding last_end
last_push low [] w = refl
last_push low (v ∷ ws) w = last_push v.end ws w

pub last_none : (low : ℕ) → last_end low [] ≡ low
unfolding last_end
last_none low = refl

pub size_push : (ws : List Waiting) (w : Waiting) → waiting_size (ws ++ w ∷ []) ≡ waiting_size ws + suc (block_size (rest_of w.block.now w.next))
unfolding waiting_size
size_push [] w = omega arith
size_push (v ∷ ws) w = let k = size_push ws w in omega (arith, k)

-- the last of those that wait
pub last_held : (hs : List Held) (ws : List Waiting) (w : Waiting) → map waiting_of hs ≡ ws ++ w ∷ [] → (gs : List Held) × (g : Held) × (hs ≡ gs ++ g ∷ []) × (map waiting_of gs ≡ ws) × (g.waiting ≡ w)
last_held [] [] w e = cc
last_held [] (v ∷ ws) w e = cc
last_held (h ∷ []) [] w e = ([], h, refl, refl, (let z : h.waiting ∷ [] ≡ w ∷ [] = e in cc))
last_held (h ∷ (g ∷ hs)) [] w e = let z : h.waiting ∷ (g.waiting ∷ map waiting_of hs) ≡ w ∷ [] = e in let y : g.waiting ∷ map waiting_of hs ≡ [] = cc in cc
last_held (h ∷ hs) (v ∷ ws) w e =
    let z : h.waiting ∷ map waiting_of hs ≡ v ∷ (ws ++ w ∷ []) = e in
    let a : h.waiting ≡ v = cc in
    let b : map waiting_of hs ≡ ws ++ w ∷ [] = cc in
    let k = last_held hs ws w b in
    (h ∷ k.0, k.1, ap (λ l. h ∷ l) k.2, (let y = k.3 in ap (λ l. h.waiting ∷ l) y ∙ ap (λ x. x ∷ ws) a), k.4)

pub none_held : (hs : List Held) → map waiting_of hs ≡ [] → hs ≡ []
none_held [] e = refl
none_held (h ∷ hs) e = cc

-- ---- blocks

pub rest_start : (b : Block) → rest_of b 0 ≡ block b
unfolding rest_of
rest_start b = sym (block_is b)

get_map_none : {A B : Type 0} (f : A → B) (xs : List A) (n : ℕ) → slice_get xs n ≡ None → slice_get (map f xs) n ≡ None
get_map_none f [] n e = refl
get_map_none f (y ∷ xs) zero e = cc
get_map_none f (y ∷ xs) (suc n) e = get_map_none f xs n e

pub instance_there : {A B : Type 0} (f : A → B) (xs : List A) (ys : List B) (n : ℕ) (x : A) → ys ≡ map f xs → slice_get xs n ≡ Some x → slice_get ys n ≡ Some (f x)
instance_there f xs ys n x e g = ap (λ l. slice_get l n) e ∙ get_map f xs n x g

pub instance_none : {A B : Type 0} (f : A → B) (xs : List A) (ys : List B) (n : ℕ) → ys ≡ map f xs → slice_get xs n ≡ None → slice_get ys n ≡ None
instance_none f xs ys n e g = ap (λ l. slice_get l n) e ∙ get_map_none f xs n g

pub rest_let : (b : Block) (n : ℕ) (x : Binding) → slice_get (out-Block b).bindings.items n ≡ Some x → rest_of b n ≡ T.Let (out-Binding x).binders.items (expression (out-Binding x).bound) (rest_of b (suc n))
unfolding rest_of
rest_let b n x e =
    let d = out-Block b in
    let rest = drop (suc n) (map binding d.bindings.items) in
    ap (λ l. block_of l (expression d.last)) (drop_get (map binding d.bindings.items) n (binding x) (get_map binding d.bindings.items n x e)) ∙ ap (λ (y : BoundPart). T.Let y.binders y.bound (block_of rest (expression d.last))) (binding_is x)

pub rest_last : (b : Block) (n : ℕ) → slice_get (out-Block b).bindings.items n ≡ None → rest_of b n ≡ T.Last (expression (out-Block b).last)
unfolding rest_of
rest_last b n e =
    let d = out-Block b in
    ap (λ l. block_of l (expression d.last)) (drop_past (map binding d.bindings.items) n (get_map_none binding d.bindings.items n e))

pub last_is : (low : ℕ) (ws : List Waiting) (w : Waiting) → (ws ≡ [] → ⊥) → w ≡ get_or ws (length ws - 1) w → last_end low ws ≡ w.end
unfolding last_end
last_is low [] w f e = absurd (f refl)
last_is low (v ∷ []) w f e = ap (λ (x : Waiting). x.end) (sym e)
last_is low (v ∷ (u ∷ ws)) w f e =
    let n : length (v ∷ (u ∷ ws)) - 1 ≡ suc (length (u ∷ ws) - 1) = omega arith in
    last_is v.end (u ∷ ws) w (λ z. cc) (e ∙ ap (λ n. get_or (v ∷ (u ∷ ws)) n w) n)
