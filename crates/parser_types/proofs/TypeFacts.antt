-- Types and the types whose brackets are open, with one more, against those of the machine.
use Rattle.std.proofs.Common.{Vec, Global, ◌≡◌, ℕ, false, List, [], ◌∷◌, ◌++◌, map, refl, sym, ap, ◌∙◌}
use Rattle.std.specs.Prelude.{reverse}
use Rattle.fip_language.specs.declared.Place.{Place}
use Rattle.fip_language.specs.Core as C
use Rattle.fip_base.specs.CoreView.{written, written_step, writtens_of}
use Rattle.fip_base.specs.declared.core_form.Written.{Written}
use Rattle.fip_base.specs.declared.core_form.Written.TheOpen as W
use Rattle.fip_base.specs.declared.core_form.Written.TheVariants as V
use Rattle.fip_base.specs.declared.core_form.Written.TheFolds.{fold-roll-Written}
use Rattle.fip_grammar.specs.Machine as M
use Rattle.parser_state.specs.declared.state.OpenType.{OpenType}
use Rattle.parser_state.specs.StateView as view
use Rattle.parser_state.proofs.StateFacts.{map_pushed, reverse_push, types_as}

written_name : (x : List ℕ) (p : Place) (ts : Vec Written Global) → written (V.Named x p ts) ≡ C.WrittenName x p (writtens_of (map written ts.items))
written_name x p ts = ap written (sym (V.rolls-Named x p ts)) ∙ fold-roll-Written C.Written written_step (W.Named x p ts)

-- one open type more, the innermost
types_more : (v os : List OpenType) (n : OpenType) → v ≡ os ++ n ∷ [] → view.open_types v ≡ view.open_type n ∷ view.open_types os
types_more v os n e = ap reverse (map_pushed view.open_type v os n e) ∙ reverse_push (map view.open_type os) (view.open_type n)

pub new_type : (v os : List OpenType) (n : OpenType) → v ≡ os ++ n ∷ [] → n.done.items ≡ [] → view.open_types v ≡ record { name = n.name; place = n.place; done = [] } ∷ view.open_types os
new_type v os n e f = types_more v os n e ∙ ap (λ x. record { name = n.name; place = n.place; done = map written x } ∷ view.open_types os) f

-- one argument more of the innermost
pub type_more : (v os : List OpenType) (n : OpenType) (ts : List Written) (t : Written) → v ≡ os ++ n ∷ [] → n.done.items ≡ ts ++ t ∷ [] → view.open_types v ≡ record { name = n.name; place = n.place; done = map written ts ++ written t ∷ [] } ∷ view.open_types os
type_more v os n ts t e f = types_more v os n e ∙ ap (λ x. record { name = n.name; place = n.place; done = x } ∷ view.open_types os) (map_pushed written n.done.items ts t f)

-- a type with its last argument
pub type_ended : (x : List ℕ) (p : Place) (done : Vec Written Global) (ts : List Written) (t : Written) → done.items ≡ ts ++ t ∷ [] → written (V.Named x p done) ≡ C.WrittenName x p (M.onto_types (map written ts ++ written t ∷ []) C.NoWritten)
type_ended x p done ts t e =
    written_name x p done
    ∙ ap (λ l. C.WrittenName x p (writtens_of l)) (map_pushed written done.items ts t e)
    ∙ ap (C.WrittenName x p) (sym (types_as (map written ts ++ written t ∷ [])))

pub none_empty : (ts : List Written) → (ts ≡ [] → ⊥) → M.is_empty (map written ts) ≡ false
none_empty [] k = absurd (k refl)
none_empty (t ∷ ts) k = refl
