-- A change of all registers is one of those that are listed, where all that lead to the changed ones are.
use Rattle.std.proofs.Common.{◌≡◌, ℕ, List, map, refl, sym, ap, ◌∙◌}
use Rattle.std.specs.Prelude.{Bool, true, false, ◌==◌, Some}
use Rattle.kind_domain.specs.cell_code.declared.kind.From.{From}
use Rattle.kind_domain.specs.cell_code.declared.kind.Kind.{Kind}
use Rattle.kind_domain.specs.code_rules.Kinds.{at, has, from_of, is_lent_of}
use Rattle.kind_domain.specs.code_rules.Changes.{forget, goes}
use Rattle.kind_domain.specs.Leading.{Gathers, leads}
use Rattle.register_kinds.specs.Steps.{each, forgets}
use Rattle.kind_domain.proofs.Places.{at_map}
use Rattle.register_kinds.proofs.EachPlace.{each_all}
use Rattle.register_kinds.proofs.Changed.{forget_by, forget_twice, forgets_unnamed, lent_forget, not_true}
use Rattle.register_kinds.proofs.Keeps.{lent_leads, unled, unlisted_from, unlisted_lent}
use Rattle.kind_domain.proofs.fip_language.Facts.{or_false_false as or_not}

pub forget_listed : (d : ℕ) (ks : List Kind) (qs : List ℕ) → ((q : ℕ) → leads d (at ks q) ≡ true → has qs q ≡ true) →
    each (forgets d) ks qs ≡ map (forgets d) ks
forget_listed d ks qs h =
    each_all (forgets d) refl (forget_twice (λ q. q == d)) qs ks
    (λ q e. forgets_unnamed d (at ks q) (unled d (at ks q) (not_true (leads d (at ks q)) (has qs q) (h q) e)).0)

not_going : (r : ℕ) (ks : List Kind) (qs : List ℕ) (q : ℕ) (f : From) → Gathers ks r qs → has qs q ≡ false →
    from_of (at ks q) ≡ Some f → goes ks r f.register ≡ false
not_going r ks qs q f g e h =
    let a = unlisted_from ks r qs q f g e h in
    or_not (f.register == r) (is_lent_of r (at ks f.register)) a.own (unlisted_lent ks r qs f.register g a.listed)

pub going_listed : (r : ℕ) (ks : List Kind) (qs : List ℕ) → Gathers ks r qs →
    each (forget (goes ks r)) ks qs ≡ map (forget (goes ks r)) ks
going_listed r ks qs g =
    each_all (forget (goes ks r)) refl (forget_twice (goes ks r)) qs ks
    (λ q e. forget_by (goes ks r) (at ks q) (from_of (at ks q)) refl (λ f h. not_going r ks qs q f g e h))

-- Forgetting leaves what is lent of a register.
pub still_listed : (r : ℕ) (p : ℕ → Bool) (ks new : List Kind) (qs : List ℕ) → new ≡ map (forget p) ks →
    ((q : ℕ) → leads r (at ks q) ≡ true → has qs q ≡ true) → (q : ℕ) → is_lent_of r (at new q) ≡ true → has qs q ≡ true
still_listed r p ks new qs e h q i =
    h q (lent_leads r (at ks q) (sym (ap (λ z. is_lent_of r (at z q)) e ∙ ap (is_lent_of r) (at_map (forget p) refl ks q)
    ∙ lent_forget p r (at ks q)) ∙ i))
