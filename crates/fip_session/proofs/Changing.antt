-- What a book finds once one name was changed.
use Rattle.std.proofs.Common.{◌≡◌, ◌∙◌, ℕ, Bool, true, false, List, Option, sym, subst, ⊎_elim}
use Rattle.std.proofs.Common.{Vec, Global}
use Rattle.std.specs.Str.{bytes_eq}
use Rattle.std.specs.BTreeMap.{BTreeMap, UpdatesBy, get_by, is_at}
use Rattle.std.specs.Cmp.{eq_by_cmp_equiv}
use Rattle.std.specs.Cmp.Lexicographic.{slice_cmp, nat_list_cmp_total}
use Rattle.std.specs.Map.{update, lookup, IsKeyTest, AreApart, KeepsOthers}
use Rattle.std.specs.Ordering.{is_eq, nat_cmp}
use Rattle.std.proofs.lemmas.Bool.{cases_Bool, cond-true, cond-false, false_from_ne_true}
use Rattle.std.proofs.lemmas.Map.Text.{is_eq-slice_cmp}
use Rattle.std.proofs.lemmas.Slice.Eq.{bytes_eq-Decides}
use Rattle.fip_session.specs.declared.book.Held.{Held}
use Rattle.fip_language.proofs.Facts.{apart_in_order}

other_entries : {K X : Type 0} (eq : K → K → Bool) (test : K → Bool) (old new : List (K × X)) → KeepsOthers eq test old new → (other : K → Bool) → IsKeyTest eq other → AreApart test other → lookup other new ≡ lookup other old
unfolding KeepsOthers
other_entries eq test old new h = h

pub changed_at : (x : List ℕ) (m n : BTreeMap (Vec ℕ Global) Held) (w : Option Held) → UpdatesBy (λ a b. slice_cmp nat_cmp a.items b.items) (λ k. slice_cmp nat_cmp x k.items) m n w → (y : List ℕ) → get_by (λ k. slice_cmp nat_cmp y k.items) n ≡ update bytes_eq (λ z. get_by (λ k. slice_cmp nat_cmp z k.items) m) x w y
changed_at x m n w h y =
    let old = get_by (λ k. slice_cmp nat_cmp y k.items) m in
    ⊎_elim
    (λ t. subst (λ z. get_by (λ k. slice_cmp nat_cmp z k.items) n ≡ w) ((bytes_eq-Decides x y).0 t) h.1 ∙ sym (cond-true (bytes_eq x y) w old t))
    (λ e.
    other_entries _ _ _ _ h.3 (is_at (λ k. slice_cmp nat_cmp y k.items)) (λ a b. (eq_by_cmp_equiv nat_list_cmp_total).congr y a.items b.items) (λ k. apart_in_order x y k.items e)
    ∙ sym (cond-false (bytes_eq x y) w old e))
    (cases_Bool (bytes_eq x y))
