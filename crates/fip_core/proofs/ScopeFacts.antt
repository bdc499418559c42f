-- What a scope looks up after one more binding, and what it keeps when the latest one is undone.
use Rattle.std.proofs.Common.{◌≡◌, ℕ, Bool, true, false, cond, List, [], ◌∷◌, ◌++◌, map, Option, Some, None, Result, Ok, Err, OnOk, OnErr, refl, sym, ap, ◌∙◌}
use Rattle.std.proofs.Common.{Vec, Global, subst, ⊎_elim}
use Rattle.std.specs.Str.{bytes_eq}
use Rattle.std.specs.BTreeMap.{BTreeMap, UpdatesBy, get_by, is_at}
use Rattle.std.specs.Cmp.{eq_by_cmp_equiv}
use Rattle.std.specs.Cmp.Lexicographic.{slice_cmp, nat_list_cmp_total}
use Rattle.std.specs.Map.{update, lookup as found, IsKeyTest, AreApart, KeepsOthers}
use Rattle.std.specs.Ordering.{is_eq, nat_cmp}
use Rattle.std.proofs.lemmas.Bool.{cases_Bool, cond-true, cond-false, false_from_ne_true}
use Rattle.std.proofs.lemmas.Map.Text.{is_eq-slice_cmp}
use Rattle.std.proofs.lemmas.Slice.Eq.{bytes_eq-Decides}
use Rattle.std.proofs.lemmas.List.{map-append, append_assoc, append-nil}
use Rattle.fip_base.specs.fip_language.CoreForm.{Named, Scope, lookup, latest}
use Rattle.fip_core.specs.ScopeView.{named, HideEarlier, IsKept}
use Rattle.fip_core.specs.declared.scope.Entry.{Entry}
use Rattle.fip_base.proofs.fip_language.Facts.{apart_in_order}

latest-one : (n : ℕ) (t : Bool) (o : Option ℕ) → latest (cond t (Some n) None) o ≡ cond t (Some n) o
latest-one n true o = refl
latest-one n false o = refl

latest-none : (o : Option ℕ) → latest None o ≡ latest o None
latest-none None = refl
latest-none (Some n) = refl

latest-latest : (a b c : Option ℕ) → latest (latest a b) c ≡ latest a (latest b c)
latest-latest (Some n) b c = refl
latest-latest None b c = refl

latest_pushed : (s : Scope) (b : Named) (x : List ℕ) → lookup (s ++ b ∷ []) x ≡ latest (cond (bytes_eq b.name x) (Some b.number) None) (lookup s x)
latest_pushed [] b x = latest-none (cond (bytes_eq b.name x) (Some b.number) None)
latest_pushed (c ∷ s) b x =
    ap (λ o. latest o (cond (bytes_eq c.name x) (Some c.number) None)) (latest_pushed s b x)
    ∙ latest-latest (cond (bytes_eq b.name x) (Some b.number) None) (lookup s x) (cond (bytes_eq c.name x) (Some c.number) None)

pub lookup-push : (s : Scope) (b : Named) (x : List ℕ) → lookup (s ++ b ∷ []) x ≡ cond (bytes_eq b.name x) (Some b.number) (lookup s x)
lookup-push s b x = latest_pushed s b x ∙ latest-one b.number (bytes_eq b.name x) (lookup s x)

named-push : (es : List Entry) (e : Entry) → map named (es ++ e ∷ []) ≡ map named es ++ named e ∷ []
named-push es e = map-append named es (e ∷ [])

HideEarlier-push : (s : Scope) (es : List Entry) (e : Entry) → HideEarlier s es → e.hidden ≡ lookup (s ++ map named es) e.name.items → HideEarlier s (es ++ e ∷ [])
HideEarlier-push s [] e h q = (rw append-nil at q, tt)
HideEarlier-push s (d ∷ es) e h q = (h.0, HideEarlier-push (s ++ named d ∷ []) es e h.1 (rw append_assoc q))

HideEarlier-front : (s : Scope) (es : List Entry) (e : Entry) → HideEarlier s (es ++ e ∷ []) → HideEarlier s es × (e.hidden ≡ lookup (s ++ map named es) e.name.items)
HideEarlier-front s [] e h = (tt, rw append-nil h.0)
HideEarlier-front s (d ∷ es) e h =
    let r = HideEarlier-front (s ++ named d ∷ []) es e h.1 in
    ((h.0, r.0), rw append_assoc at r.1)

-- one more binding, which the map takes in
pub IsKept-push : (es : List Entry) (e : Entry) (f g : List ℕ → Option ℕ) → IsKept es f → e.hidden ≡ f e.name.items → ((x : List ℕ) → g x ≡ update bytes_eq f e.name.items (Some e.number) x) → IsKept (es ++ e ∷ []) g
IsKept-push es e f g k h u = record {
  finds = λ x.
      u x
      ∙ ap (λ o. cond (bytes_eq e.name.items x) (Some e.number) o) (k.finds x)
      ∙ sym (lookup-push (map named es) (named e) x)
      ∙ ap (λ s. lookup s x) (sym (named-push es e));
  hides = HideEarlier-push [] es e k.hides (h ∙ k.finds e.name.items);
}

undone : (t : Bool) (n : ℕ) (o p : Option ℕ) → (t ≡ true → o ≡ p) → cond t o (cond t (Some n) p) ≡ p
undone true n o p h = h refl
undone false n o p h = refl

-- the latest binding is undone, where the map has what it hid
pub IsKept-undo : (es : List Entry) (e : Entry) (f g : List ℕ → Option ℕ) → IsKept (es ++ e ∷ []) f → ((x : List ℕ) → g x ≡ update bytes_eq f e.name.items e.hidden x) → IsKept es g
IsKept-undo es e f g k u =
    let front = HideEarlier-front [] es e k.hides in
    record {
      finds = λ x.
          u x
          ∙ ap (λ o. cond (bytes_eq e.name.items x) e.hidden o)
          (k.finds x ∙ ap (λ s. lookup s x) (named-push es e) ∙ lookup-push (map named es) (named e) x)
          ∙ undone (bytes_eq e.name.items x) e.number e.hidden (lookup (map named es) x)
          (λ t. front.1 ∙ ap (λ y. lookup (map named es) y) ((bytes_eq-Decides e.name.items x).0 t));
      hides = front.0;
    }

-- the latest binding's name is in the map
pub IsKept-last : (es : List Entry) (e : Entry) (f : List ℕ → Option ℕ) → IsKept (es ++ e ∷ []) f → f e.name.items ≡ Some e.number
IsKept-last es e f k =
    k.finds e.name.items
    ∙ ap (λ s. lookup s e.name.items) (named-push es e)
    ∙ lookup-push (map named es) (named e) e.name.items
    ∙ ap (λ t. cond t (Some e.number) (lookup (map named es) e.name.items)) ((bytes_eq-Decides e.name.items e.name.items).1 refl)

-- a map whose keys are names of its own, after it was changed at one

other_entries : {K X : Type 0} (eq : K → K → Bool) (test : K → Bool) (old new : List (K × X)) → KeepsOthers eq test old new → (other : K → Bool) → IsKeyTest eq other → AreApart test other → found other new ≡ found other old
unfolding KeepsOthers
other_entries eq test old new h = h

pub changed_at : (x : List ℕ) (m n : BTreeMap (Vec ℕ Global) ℕ) (w : Option ℕ) → UpdatesBy (λ a b. slice_cmp nat_cmp a.items b.items) (λ k. slice_cmp nat_cmp x k.items) m n w → (y : List ℕ) → get_by (λ k. slice_cmp nat_cmp y k.items) n ≡ update bytes_eq (λ z. get_by (λ k. slice_cmp nat_cmp z k.items) m) x w y
changed_at x m n w h y =
    let old = get_by (λ k. slice_cmp nat_cmp y k.items) m in
    ⊎_elim
    (λ t. subst (λ z. get_by (λ k. slice_cmp nat_cmp z k.items) n ≡ w) ((bytes_eq-Decides x y).0 t) h.1 ∙ sym (cond-true (bytes_eq x y) w old t))
    (λ e.
    other_entries _ _ _ _ h.3 (is_at (λ k. slice_cmp nat_cmp y k.items)) (λ a b. (eq_by_cmp_equiv nat_list_cmp_total).congr y a.items b.items) (λ k. apart_in_order x y k.items e)
    ∙ sym (cond-false (bytes_eq x y) w old e))
    (cases_Bool (bytes_eq x y))

-- what holds after an Ok, where there can be no Err
pub at_ok : {T E P Q : Type 0} (r : Result T E) → OnOk r P → OnErr r Q → (Q → ⊥) → P
at_ok (Ok x) p q h = p
at_ok (Err y) p q h = absurd (h q)

pub none_is_some : {n : ℕ} → ◌≡◌ {A = Option ℕ} None (Some n) → ⊥
none_is_some h = cc
