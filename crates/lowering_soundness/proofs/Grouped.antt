-- The functions of a code that is laid out as its program requires call each other as the instances do: so fip
-- functions release nothing, and wait for none of their own group.
use Rattle.std.proofs.Common.{◌≡◌, ℕ, zero, suc, Bool, true, false, not, List, [], ◌∷◌, map, slice_get, Option, Some, None, refl, sym, ap, ◌∙◌, subst, arith, true≢false}
use Rattle.std.proofs.lemmas.Option.{none-some, same_Some}
use Rattle.separation.specs.cell_code.declared.code.Instr.{Instr}
use Rattle.separation.specs.cell_code.declared.code.Instr.TheVariants as I
use Rattle.separation.specs.fip_language.declared.FunKind.{FunKind}
use Rattle.separation.specs.fip_language.declared.FunKind.TheVariants.{Fip, Fbip, Fun}
use Rattle.lowering_relation.specs.fip_trees.declared.least.Violation.{Violation}
use Rattle.lowering_relation.specs.fip_trees.Tree.{Instance, Program}
use Rattle.tail_groups.specs.call_groups.CallGraph as G
use Rattle.tail_groups.specs.call_groups.CallGraph.{In, call, calls_of}
use Rattle.tail_groups.specs.Sites.{Site, instance_sites, called, instance_calls, call_rows}
use Rattle.tail_groups.specs.Rules as T
use Rattle.tail_groups.specs.Rules.{Violates, reported}
use Rattle.tail_groups.specs.Members.{FipCallsFip}
use Rattle.separation.specs.cell_code.Plain.{PlainFunction, PlainCode, function_at}
use Rattle.separation.specs.code_rules.Codes.{is_fip, is_weak, is_weaker, code_kind}
use Rattle.separation.specs.code_rules.Calls.{IsCall, CallsAt, Calls, Path, SameGroup}
use Rattle.separation.specs.code_rules.Endings.{releases}
use Rattle.separation.specs.code_rules.Flow.{IsInstr}
use Rattle.lowering_relation.specs.Known.{joined}
use Rattle.lowering_relation.specs.Values.{Setting}
use Rattle.lowering_relation.specs.LoweredBodies.{has_function, one_more, if_function, function_of}
use Rattle.lowering_soundness.specs.Origins.{gives_up, ComesFrom, HasOrigin}
use Rattle.lowering_relation.specs.LaidFunctions.{IsLaid, AreLaid}
use Rattle.lowering_soundness.proofs.Origins.{of_function}
use Rattle.tail_groups.proofs.fip_language.Facts.{false_of_not as in_tail}

-- ---- no two instances have one function

less : (b : Bool) (o q : Option ℕ) (n : ℕ) → one_more b o ≡ Some n → one_more b q ≡ Some n → (m : ℕ) × (o ≡ Some m) × (q ≡ Some m)
less b None q n x y = absurd (none-some n x)
less b (Some f) None n x y = absurd (none-some n y)
less false (Some f) (Some g) n x y = (n, x, y)
less true (Some f) (Some g) n x y = let a = same_Some (suc f) n x in let b = same_Some (suc g) n y in (f, refl, ap Some (omega (arith, a, b)))

not_first : (b : Bool) (o : Option ℕ) (n : ℕ) → if_function b ≡ Some n → one_more b o ≡ Some n → ⊥
not_first false o n x y = none-some n x
not_first true None n x y = none-some n y
not_first true (Some f) n x y = let a = same_Some 0 n x in let b = same_Some (suc f) n y in absurd (omega (arith, a, b))

pub function_once : (ds : List Instance) (i j n : ℕ) → function_of ds i ≡ Some n → function_of ds j ≡ Some n → i ≡ j
function_once [] i j n a b = absurd (none-some n a)
function_once (d ∷ ds) zero zero n a b = refl
function_once (d ∷ ds) zero (suc j) n a b = absurd (not_first (has_function d.kind) (function_of ds j) n a b)
function_once (d ∷ ds) (suc i) zero n a b = absurd (not_first (has_function d.kind) (function_of ds i) n b a)
function_once (d ∷ ds) (suc i) (suc j) n a b = let z = less (has_function d.kind) (function_of ds i) (function_of ds j) n a b in ap suc (function_once ds i j z.0 z.1 z.2)

-- ---- rows of calls

pub row_of : (ds : List Instance) (i : ℕ) (d : Instance) → slice_get ds i ≡ Some d → calls_of (call_rows ds) i ≡ instance_calls d
row_of [] i d h = absurd (none-some d h)
row_of (e ∷ ds) zero d h = ap instance_calls (same_Some e d h)
row_of (e ∷ ds) (suc i) d h = row_of ds i d h

called_at : (ss : List Site) (i : ℕ) (s : Site) → slice_get ss i ≡ Some s → slice_get (map called ss) i ≡ Some (called s)
called_at [] i s h = absurd (none-some s h)
called_at (q ∷ ss) zero s h = ap (λ s. Some (called s)) (same_Some q s h)
called_at (q ∷ ss) (suc i) s h = called_at ss i s h

pub same_fip : (k : FunKind) → is_fip (code_kind k) ≡ T.is_fip k
same_fip Fip = refl
same_fip Fbip = refl
same_fip Fun = refl

module _ (c : PlainCode) (st : Setting) (p : Program) (all : AreLaid c st p) where
  once : (i j n : ℕ) → joined (slice_get st.functions i) ≡ Some n → joined (slice_get st.functions j) ≡ Some n → i ≡ j
  once i j n a b = function_once p.instances i j n (sym (all.setting.functions i) ∙ a) (sym (all.setting.functions j) ∙ b)

  -- a call of the code is one of its program
  pub calls_same : (i a g : ℕ) (waits : Bool) → joined (slice_get st.functions i) ≡ Some a → Calls c a g waits → (j : ℕ) × (joined (slice_get st.functions j) ≡ Some g) × G.Calls (call_rows p.instances) i j waits
  calls_same i a g waits number k =
      let here = k.1 in
      let l = all.each a here.function here.is in
      let z = (of_function c st (is_fip here.function.kind) here.function l.instance l.laid k.0 here.instr here.reached.instr).calls g waits here.call in
      let same : l.number ≡ i = once l.number i a l.function number in
      let made : In (call z.site.callee (not z.site.is_tail)) (instance_calls l.instance) = (z.there.0, called_at (instance_sites l.instance) z.there.0 z.site z.there.1) in
      let waiting : In (call z.site.callee waits) (instance_calls l.instance) = subst (λ w. In (call z.site.callee w) (instance_calls l.instance)) (sym z.tail) made in
      (z.site.callee, z.function, subst (λ i. G.Calls (call_rows p.instances) i z.site.callee waits) same (subst (In (call z.site.callee waits)) (sym (row_of p.instances l.number l.instance l.there)) waiting))

  path_same : (k i a b : ℕ) → joined (slice_get st.functions i) ≡ Some a → (j : ℕ) → joined (slice_get st.functions j) ≡ Some b → Path c k a b → G.Path (call_rows p.instances) k i j
  path_same zero i a b number j last e = once i j b (number ∙ ap Some e) last
  path_same (suc k) i a b number j last (g, (w, calls), rest) = let z = calls_same i a g w number calls in (z.0, (w, z.2), path_same k z.0 g b z.1 j last rest)

  fip_instance : (n : ℕ) (f g : PlainFunction) (l : IsLaid c st p n g) → Some f ≡ Some g → is_fip f.kind ≡ true → T.is_fip l.instance.kind ≡ true
  fip_instance n f g l same fip = sym (same_fip (l.instance).kind) ∙ sym (ap is_fip l.kind) ∙ sym (ap (λ (f : PlainFunction). is_fip f.kind) (same_Some f g same)) ∙ fip

  pub waits_for_none : ((v : Violation) → Violates p v → ⊥) → (n : ℕ) (f : PlainFunction) → function_at c n ≡ Some f → is_fip f.kind ≡ true → (i callee : ℕ) → CallsAt c n i callee true → SameGroup c n callee → ⊥
  waits_for_none right n f there fip i callee here group =
      let l = all.each n here.function here.is in
      let z = (of_function c st (is_fip here.function.kind) here.function l.instance l.laid i here.instr here.reached.instr).calls callee true here.call in
      right (reported l.number z.site) (
        l.number,
        l.instance,
        z.site,
        record {
          instance = l.there;
          fip = fip_instance n f here.function l (sym there ∙ here.is) fip;
          call = z.there;
          waits = in_tail z.site.is_tail z.tail;
          together = ((group.0.0, path_same group.0.0 l.number n callee l.function z.site.callee z.function group.0.1), (group.1.0, path_same group.1.0 z.site.callee callee n z.function l.number l.function group.1.1));
        },
        refl,
      )

  released : (x : Instr) → gives_up x ≡ false → ((g : ℕ) (w : Bool) → IsCall x g w → is_weaker c g ≡ false) → releases c x ≡ false
  released (I.Const d v) e k = refl
  released (I.Atom d t m) e k = refl
  released (I.Move d s) e k = refl
  released (I.Arith d op a b line col) e k = refl
  released (I.Test r m target) e k = refl
  released (I.TestInt r v target) e k = refl
  released (I.Peek d r m) e k = refl
  released (I.Take r ds) e k = refl
  released (I.Put d t m ss) e k = refl
  released (I.Drop r) e k = absurd (true≢false e)
  released (I.Free r) e k = absurd (true≢false e)
  released (I.Call g rs ds) e k = k g true (refl, refl)
  released (I.Tail g rs) e k = k g false (refl, refl)
  released (I.Ret rs) e k = refl
  released (I.Jump target) e k = refl

  pub releases_nothing : FipCallsFip p.instances → (n : ℕ) (f : PlainFunction) → function_at c n ≡ Some f → is_fip f.kind ≡ true → (i : ℕ) (x : Instr) → IsInstr f i x → releases c x ≡ false
  releases_nothing fips n f there fip i x is = released x (origin.keeps fip) (λ g w k. weaker g (origin.calls g w k))
    where
      l : IsLaid c st p n f
      l = all.each n f there

      origin : HasOrigin st (is_fip f.kind) (instance_sites l.instance) x
      origin = of_function c st (is_fip f.kind) f l.instance l.laid i x is

      weaker : (g : ℕ) {w : Bool} → ComesFrom st (instance_sites l.instance) g w → is_weaker c g ≡ false
      weaker g z = by (function_at c g) refl
        where
          by : (o : Option PlainFunction) → function_at c g ≡ o → is_weak o ≡ false
          by None e = refl
          by (Some h) e =
              let called' = fips l.number l.instance z.site l.there (fip_instance n f f l refl fip) z.there in
              let m = all.each g h e in
              let same : m.number ≡ z.site.callee = once m.number z.site.callee g m.function z.function in
              let one : m.instance ≡ called'.0 = same_Some m.instance called'.0 (sym m.there ∙ ap (slice_get p.instances) same ∙ called'.1) in
              ap not (ap is_fip (m.kind ∙ ap (λ (d : Instance). code_kind d.kind) one) ∙ same_fip (called'.0).kind ∙ called'.2)
