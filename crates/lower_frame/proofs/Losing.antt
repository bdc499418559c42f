-- What is forgotten of registers: no register or variable is new, nor is what one holds.
use Rattle.std.proofs.Common.{◌≡◌, refl, sym, ◌∙◌, subst, ℕ, List, ◌≤◌, Option, Some, None, map, slice_get}
use Rattle.std.specs.Prelude.{option_map}
use Rattle.std.proofs.lemmas.Option.{slice_get-map}
use Rattle.lowering_relation.specs.declared.held.Held.{Held}
use Rattle.lowering_relation.specs.declared.held.Held.TheVariants as H
use Rattle.lowering_relation.specs.declared.held.Credit.{Credit}
use Rattle.lowering_relation.specs.Known.{Known, holding, using, used}
use Rattle.lowering_relation.proofs.LoweredLists.{fewer_same, fewer_on, taken_fewer, barer_on, barer_set, barer_used}
use Rattle.lowering_relation.specs.Matches.{widened}
use Rattle.lowering_relation.specs.Losing.{Loses, Resumes}
use Rattle.lower_frame.specs.Frames.{Takes}

pub loses_same : (k : Known) → Loses k k
loses_same k = record { names = refl; next = refl; credits = fewer_same k.credits; barer = λ r t c h. h }

pub loses_on : (k l m : Known) → Loses k l → Loses l m → Loses k m
loses_on k l m p q = record {
  names = q.names ∙ p.names;
  next = q.next ∙ p.next;
  credits = fewer_on k.credits l.credits m.credits p.credits q.credits;
  barer = barer_on k.held l.held m.held p.barer q.barer;
}

pub loses_nothing : (k l : Known) (r : ℕ) → l ≡ holding k r H.Nothing → Loses k l
loses_nothing k l r e = subst (Loses k) (sym e) (record {
  names = refl;
  next = refl;
  credits = fewer_same k.credits;
  barer = barer_set k.held r H.Nothing (λ t c x. absurd (cc));
})

pub loses_used : (k l : Known) (r : ℕ) → l ≡ using k (used k.held r) → Loses k l
loses_used k l r e = subst (Loses k) (sym e) (record { names = refl; next = refl; credits = fewer_same k.credits; barer = barer_used k.held r })

pub loses_taken : (k l : Known) (n r : ℕ) → Takes k n r l → Loses k l
loses_taken k l n r h = subst (Loses k) (sym h.known) (record {
  names = refl;
  next = refl;
  credits = taken_fewer k.credits n r h.rest h.taken;
  barer = barer_set k.held r H.Nothing (λ t c x. absurd (cc));
})

widened_bare : (o : Option Held) (t c : ℕ) → option_map widened o ≡ Some (H.Bare t c) → o ≡ Some (H.Bare t c)
widened_bare None t c e = absurd (cc)
widened_bare (Some H.Nothing) t c e = absurd (cc)
widened_bare (Some (H.Scalar u)) t c e = absurd (cc)
widened_bare (Some (H.Owned u b)) t c e = absurd (cc)
widened_bare (Some (H.Lent u root)) t c e = absurd (cc)
widened_bare (Some (H.Credit n)) t c e = absurd (cc)
widened_bare (Some (H.Bare u d)) t c e = e

pub loses_widened : (hs ks : List Held) (cs : List Credit) (ns : List (Option ℕ)) (n : ℕ) → ks ≡ map widened hs → Loses (record { held = hs; credits = cs; names = ns; next = n }) (record { held = ks; credits = cs; names = ns; next = n })
loses_widened hs ks cs ns n e = subst (λ x. Loses (record { held = hs; credits = cs; names = ns; next = n }) (record { held = x; credits = cs; names = ns; next = n })) (sym e) (record {
  names = refl;
  next = refl;
  credits = fewer_same cs;
  barer = λ r t c h. widened_bare (slice_get hs r) t c (sym (slice_get-map widened hs r) ∙ h);
})

pub ruleset losing = (loses_same, loses_nothing, loses_used, loses_taken, loses_widened)

-- what was known elsewhere, with more registers used
pub resumed : (k : Known) (n : ℕ) → k.next ≤ n → Resumes k (record k { next = n })
resumed k n h = record { names = refl; grows = h; credits = fewer_same k.credits; barer = λ r t c x. x }

pub ruleset resuming = (resumed)
