-- What is known at the start of a function is so.
use Rattle.std.proofs.Common.{◌≡◌, ℕ, zero, suc, ◌+◌, List, [], ◌∷◌, ◌++◌, Option, Some, None, Bool, true, false, refl, sym, ap, ◌∙◌, subst, arith, slice_get, length, map, replicate}
use Rattle.std.specs.Prelude.{option_map, ◌==◌, ◌&&◌, not, if◌then◌else◌}
use Rattle.std.proofs.lemmas.Option.{slice_get-map}
use Rattle.tree_refinement.specs.fip_language.Values.{Value, Values, End, More}
use Rattle.tree_refinement.specs.fip_language.Meaning.{Environment, nothing_bound}
use Rattle.tree_refinement.specs.fip_base.declared.plain.Param.{Param}
use Rattle.lowering_relation.specs.fip_trees.declared.program.Binder.{Binder}
use Rattle.lowering_relation.specs.fip_trees.Tree.{Instance}
use Rattle.lowering_relation.specs.instance_semantics.Meaning.{bind_binders}
use Rattle.lowering_relation.specs.tree_semantics.Contents.{Contents, value_at}
use Rattle.lowering_relation.specs.Choosing.{FewerCredits}
use Rattle.lowering_relation.specs.Tidy.{NotIn, Once, Below, Fixed}
use Rattle.lowering_relation.specs.declared.held.Held.TheVariants as H
use Rattle.lowering_relation.specs.declared.held.Credit.{Credit}
use Rattle.lowering_relation.specs.Known.{Known, joined, register_of}
use Rattle.lowering_relation.specs.LoweredBodies.{given, given_if, registers_for, reserved, all_named, with_names}
use Rattle.lowering_relation.specs.Values.{Setting, is_scalar}
use Rattle.lowering_relation.specs.LoweredFunctions.{param_held, with_param, with_params, unless_in, with_credit, with_credits, nothing_known, known_at_start}
use Rattle.lowering_simulation.specs.Distinct.{numbers, Differ, IsDistinct}
use Rattle.lowering_relation.proofs.LoweredLists.{fewer_same, Barer, barer_set, NotBare}
use Rattle.lowering_simulation.proofs.Arguments.{World, world_on, kept_same}
use Rattle.lowering_simulation.proofs.Naming.{Clear, Holds, world_named}
use Rattle.lowering_simulation.proofs.Later.{reserved_fixed}
use Rattle.lowering_simulation.proofs.Bodies.{Begins, fit_reserved}
use Rattle.type_safety.proofs.type_check.fip_language.Facts.{get_replicate as replicated}
use Rattle.lowering_relation.proofs.Entries.{given_not}

unnamed_joined : (o : Option (Option ℕ)) (r : ℕ) → ((x : Option ℕ) → o ≡ Some x → x ≡ None) → joined o ≡ Some r → ⊥
unnamed_joined None r h e = absurd (cc)
unnamed_joined (Some None) r h e = absurd (cc)
unnamed_joined (Some (Some q)) r h e = let n = h (Some q) refl in absurd (cc)

nothing_named : (n x r : ℕ) → register_of (replicate n None) (Some x) ≡ Some r → ⊥
nothing_named n x r e = unnamed_joined (slice_get (replicate n None) x) r (λ o h. replicated n None x o h) e

nothing_bare : (n r t c : ℕ) → slice_get (replicate n H.Nothing) r ≡ Some (H.Bare t c) → ⊥
nothing_bare n r t c e = let h = replicated n H.Nothing r (H.Bare t c) e in absurd (cc)

nothing_world : (n v : ℕ) (cs : Contents) → World (nothing_known n v) nothing_bound cs
nothing_world n v cs = record {
  tidy = record {
    named = λ x r h. absurd (nothing_named v x r h);
    bare = λ r t c h. absurd (nothing_bare n r t c h);
    once = tt;
    below = tt;
  };
  agrees = λ x r u h e. absurd (nothing_named v x r h);
  bares = λ r t c h. absurd (nothing_bare n r t c h);
}

-- parameters

param_not : (setting : Setting) (b : Bool) (t : ℕ) → NotBare (if b then H.Lent t None else given setting t)
param_not setting true t u c e = absurd (cc)
param_not setting false t u c e = given_not (is_scalar setting t) t u c e

params_barer : (setting : Setting) (k : Known) (ps : List Param) (bs : List Binder) → Barer k.held (with_params setting k ps bs).held
params_barer setting k [] bs r t c e = e
params_barer setting k (p ∷ ps) [] r t c e = e
params_barer setting k (p ∷ ps) (b ∷ bs) r t c e =
    barer_set k.held k.next (param_held setting p) (param_not setting (p.lent && not (is_scalar setting p.ty)) p.ty) r t c
    (params_barer setting (with_param setting k p b) ps bs r t c e)

params_credits : (setting : Setting) (k : Known) (ps : List Param) (bs : List Binder) → (with_params setting k ps bs).credits ≡ k.credits
params_credits setting k [] bs = refl
params_credits setting k (p ∷ ps) [] = refl
params_credits setting k (p ∷ ps) (b ∷ bs) = params_credits setting (with_param setting k p b) ps bs

params_next : (setting : Setting) (k : Known) (ps : List Param) (bs : List Binder) → length ps ≡ length bs → (with_params setting k ps bs).next ≡ k.next + length bs
params_next setting k [] [] e = omega arith
params_next setting k [] (b ∷ bs) e = absurd (omega (arith, e))
params_next setting k (p ∷ ps) [] e = absurd (omega (arith, e))
params_next setting k (p ∷ ps) (b ∷ bs) e = let h = params_next setting (with_param setting k p b) ps bs (omega (arith, e)) in omega (arith, h)

params_names : (setting : Setting) (k : Known) (ps : List Param) (bs : List Binder) → length ps ≡ length bs → (with_params setting k ps bs).names ≡ all_named k.names bs (registers_for k.next bs)
params_names setting k [] [] e = refl
params_names setting k [] (b ∷ bs) e = absurd (omega (arith, e))
params_names setting k (p ∷ ps) [] e = absurd (omega (arith, e))
params_names setting k (p ∷ ps) (b ∷ bs) e = params_names setting (with_param setting k p b) ps bs (omega (arith, e))

holds_from : (cs : Contents) (n : ℕ) (bs : List Binder) (vs : Values) → ((j : ℕ) (v : Value) → value_at vs j ≡ Some v → cs (n + j) ≡ v) → Holds cs (registers_for n bs) vs
holds_from cs n [] vs h = tt
holds_from cs n (b ∷ bs) End h = tt
holds_from cs n (b ∷ bs) (More v vs) h = (
  ap cs (let e : n ≡ n + zero = omega arith in e) ∙ h zero v refl,
  holds_from cs (suc n) bs vs (λ j u e. ap cs (let s : suc n + j ≡ n + suc j = omega arith in s) ∙ h (suc j) u e),
)

params_world : (setting : Setting) (k : Known) (ps : List Param) (bs : List Binder) (env : Environment) (cs : Contents) (vs : Values) → length ps ≡ length bs → World k env cs → ((j : ℕ) (v : Value) → value_at vs j ≡ Some v → cs (k.next + j) ≡ v) → Differ (numbers bs) → Clear env (numbers bs) → World (with_params setting k ps bs) (bind_binders env bs vs) cs
params_world setting k ps bs env cs vs e w h d c =
    world_on (with_names k0 bs regs) (with_params setting k ps bs) (bind_binders env bs vs) cs cs
    (record {
      names = params_names setting k ps bs e;
      grows = let n = params_next setting k ps bs e in omega (arith, n);
      fewer = subst (FewerCredits k.credits) (sym (params_credits setting k ps bs)) (fewer_same k.credits);
      barer = params_barer setting k ps bs;
    })
    (kept_same (with_names k0 bs regs) cs)
    (world_named k0 env cs bs regs vs
    (world_on k k0 env cs cs (record { names = refl; grows = omega arith; fewer = fewer_same k.credits; barer = λ r t b x. x }) (kept_same k cs) w)
    (reserved_fixed k bs w.tidy) (holds_from cs k.next bs vs h) (fit_reserved k.next bs vs) d c)
  where
    k0 : Known
    k0 = reserved k bs

    regs : List ℕ
    regs = registers_for k.next bs

-- credits

unless_is : (r q : ℕ) (o : Option (Option ℕ)) → joined (option_map (unless_in r) o) ≡ Some q → joined o ≡ Some q
unless_is r q None e = absurd (cc)
unless_is r q (Some None) e = absurd (cc)
unless_is r q (Some (Some y)) e = by_test (y == r) e
  where
    by_test : (b : Bool) → (if b then None else Some y) ≡ Some q → Some y ≡ Some q
    by_test true h = absurd (cc)
    by_test false h = h

unless_named : (r x q : ℕ) (ns : List (Option ℕ)) → register_of (map (unless_in r) ns) (Some x) ≡ Some q → register_of ns (Some x) ≡ Some q
unless_named r x q ns e = unless_is r q (slice_get ns x) (ap joined (sym (slice_get-map (unless_in r) ns x)) ∙ e)

not_in_more : (q n r : ℕ) (cs : List Credit) → NotIn q cs → (q ≡ r → ⊥) → NotIn q (cs ++ (record { size = n; register = r } ∷ []))
not_in_more q n r [] h ne = (ne, tt)
not_in_more q n r (c ∷ cs) h ne = (h.0, not_in_more q n r cs h.1 ne)

once_more : (n r : ℕ) (cs : List Credit) → Once cs → Below r cs → Once (cs ++ (record { size = n; register = r } ∷ []))
once_more n r [] h b = (tt, tt)
once_more n r (c ∷ cs) h b = (not_in_more c.register n r cs h.0 (λ e. let lt = b.0 in absurd (omega (arith, e, lt))), once_more n r cs h.1 b.1)

below_one_more : (n r : ℕ) (cs : List Credit) → Below r cs → Below (suc r) (cs ++ (record { size = n; register = r } ∷ []))
below_one_more n r [] h = (omega arith, tt)
below_one_more n r (c ∷ cs) h = (let lt = h.0 in omega (arith, lt), below_one_more n r cs h.1)

credit_world : (k : Known) (n : ℕ) (env : Environment) (cs : Contents) → World k env cs → World (with_credit (record k { next = suc k.next }) n k.next) env cs
credit_world k n env cs w = record {
  tidy = record {
    named = λ x r h. fixed (w.tidy.named x r (unless_named k.next x r k.names h));
    bare = λ r t c h. fixed (w.tidy.bare r t c (barer_set k.held k.next (H.Credit n) (λ u d e. absurd (cc)) r t c h));
    once = once_more n k.next k.credits w.tidy.once w.tidy.below;
    below = below_one_more n k.next k.credits w.tidy.below;
  };
  agrees = λ x r v h e. w.agrees x r v (unless_named k.next x r k.names h) e;
  bares = λ r t c h. w.bares r t c (barer_set k.held k.next (H.Credit n) (λ u d e. absurd (cc)) r t c h);
}
  where
    fixed : {r : ℕ} → Fixed k r → Fixed (with_credit (record k { next = suc k.next }) n k.next) r
    fixed f = record { used = let lt = f.used in omega (arith, lt); kept = not_in_more _ n k.next k.credits f.kept (λ e. let lt = f.used in absurd (omega (arith, e, lt))) }

credits_world : (k : Known) (ns : List ℕ) (env : Environment) (cs : Contents) → World k env cs → World (with_credits k ns) env cs
credits_world k [] env cs w = w
credits_world k (n ∷ ns) env cs w = credits_world (with_credit (record k { next = suc k.next }) n k.next) ns env cs (credit_world k n env cs w)

pub starts : (setting : Setting) (n : ℕ) (d : Instance) (cs : Contents) (vs : Values) → IsDistinct d → Begins cs vs → World (known_at_start setting n d) (bind_binders nothing_bound d.binders vs) cs
starts setting n d cs vs dis b =
    credits_world (with_params setting (nothing_known n d.variables) d.params d.binders) d.credits (bind_binders nothing_bound d.binders vs) cs
    (params_world setting (nothing_known n d.variables) d.params d.binders nothing_bound cs vs dis.as_many (nothing_world n d.variables cs)
    (λ j v e. ap cs (let s : 0 + j ≡ j = omega arith in s) ∙ b j v e) dis.params (λ x m. refl))
