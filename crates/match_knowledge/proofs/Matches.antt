-- A match is covered, and a clause is reached.
use Rattle.std.proofs.Common.{◌≡◌, ℕ, List, [], ◌∷◌, Bool, true, refl, sym, subst, arith}
use Rattle.std.specs.Prelude.{if◌then◌else◌}
use Rattle.match_knowledge.specs.declared.verdicts.Verdict.TheVariants.{Fits, Misses}
use Rattle.fip_base.specs.fip_language.Values.{Value, Values, End, More}
use Rattle.fip_base.specs.fip_language.Table.{Table, HasType}
use Rattle.match_knowledge.specs.ValueHeads.{IsTidy, AllHaveValues, head, children, same_head}
use Rattle.match_knowledge.specs.Patterns.{Pattern, Any, Test, Patterns, NoPatterns, MorePatterns, fits, fit_all, IsPattern, ArePatterns}
use Rattle.match_knowledge.specs.Known.{Known, Open, agrees, agree_all, both, compare, compare_all, Alive, AllAlive}
use Rattle.match_knowledge.specs.Left.{Left, Reports, HasRoom, IsSearch, Missed, Reached, known_of, all_known, IsMatch}
use Rattle.match_knowledge.proofs.Facts.{same_refl, and_both, both_and}
use Rattle.match_knowledge.proofs.VerdictFacts.{fit}
use Rattle.match_knowledge.proofs.Living.{head_values}
use Rattle.match_knowledge.proofs.Fewer.{rows_most}

mutual
  pub fit_agrees : (p : Pattern) (v : Value) → fits p v ≡ true → agrees (known_of p) v ≡ true
  fit_agrees Any v e = refl
  fit_agrees (Test t h ps) v e = let r = and_both (same_head h (head v)) (fit_all ps (children v)) e in both_and (same_head h (head v)) (agree_all (all_known ps) (children v)) r.0 (fits_agree ps (children v) r.1)

  pub fits_agree : (ps : Patterns) (vs : Values) → fit_all ps vs ≡ true → agree_all (all_known ps) vs ≡ true
  fits_agree NoPatterns vs e = refl
  fits_agree (MorePatterns p ps) End e = refl
  fits_agree (MorePatterns p ps) (More v vs) e = let r = and_both (fits p v) (fit_all ps vs) e in both_and (agrees (known_of p) v) (agree_all (all_known ps) vs) (fit_agrees p v r.0) (fits_agree ps vs r.1)

mutual
  pub self : (p : Pattern) → compare p (known_of p) ≡ Fits
  self Any = refl
  self (Test t h ps) = subst (λ b. (if b then compare_all ps (all_known ps) else Misses) ≡ Fits) (sym (same_refl h)) (selves ps)

  pub selves : (ps : Patterns) → compare_all ps (all_known ps) ≡ Fits
  selves NoPatterns = refl
  selves (MorePatterns p ps) = subst (λ a. both a (compare_all ps (all_known ps)) ≡ Fits) (sym (self p)) (selves ps)

mutual
  pub known_alive : (tb : Table) (m t : ℕ) (p : Pattern) → IsTidy tb → ((v : Value) × HasType tb t v) → IsPattern tb t p → Alive tb m t (known_of p)
  known_alive tb m t Any y v q = (omega arith, v.0, v.1, refl)
  known_alive tb m t (Test u h ps) y v q = (q.1, q.2, knowns_alive tb m q.1 ps y (head_values tb t h q.1 y q.2) q.3)

  pub knowns_alive : (tb : Table) (m : ℕ) (fs : List ℕ) (ps : Patterns) → IsTidy tb → AllHaveValues tb fs → ArePatterns tb fs ps → AllAlive tb m fs (all_known ps)
  knowns_alive tb m [] NoPatterns y v q = tt
  knowns_alive tb m [] (MorePatterns p ps) y v q = absurd q
  knowns_alive tb m (f ∷ fs) NoPatterns y v q = absurd q
  knowns_alive tb m (f ∷ fs) (MorePatterns p ps) y v q = (known_alive tb m f p y v.0 q.0, knowns_alive tb m fs ps y v.1 q.1)

pub open_room : (tb : Table) (t : ℕ) (rows : List Pattern) (k : Known) → IsMatch tb t rows → k ≡ Open [] → HasRoom tb t rows k
open_room tb t rows k m e = subst (HasRoom tb t rows) (sym e) (let f = m.few in let l = rows_most rows (Open []) in (0, omega arith, (omega arith, m.inhabited.0, m.inhabited.1, refl)))

pub pattern_room : (tb : Table) (t : ℕ) (rows : List Pattern) (p : Pattern) (k : Known) → IsMatch tb t rows → IsPattern tb t p → k ≡ known_of p → HasRoom tb t rows k
pattern_room tb t rows p k m q e = subst (HasRoom tb t rows) (sym e) (let f = m.few in let l = rows_most rows (known_of p) in (0, omega arith, known_alive tb 0 t p m.tidy m.inhabited q))

pub open_search : (tb : Table) (t : ℕ) (rows : List Pattern) (k : Known) → IsMatch tb t rows → k ≡ Open [] → IsSearch tb t rows k
open_search tb t rows k m e = record { tidy = m.tidy; typed = m.typed; room = open_room tb t rows k m e }

pub pattern_search : (tb : Table) (t : ℕ) (rows : List Pattern) (p : Pattern) (k : Known) → IsMatch tb t rows → IsPattern tb t p → k ≡ known_of p → IsSearch tb t rows k
pattern_search tb t rows p k m q e = record { tidy = m.tidy; typed = m.typed; room = pattern_room tb t rows p k m q e }

pub missed_reports : (tb : Table) (t : ℕ) (rows : List Pattern) (k : Known) (b : Bool) → k ≡ Open [] → Reports b (Left tb t rows k) → Reports b (Missed tb t rows)
missed_reports tb t rows k b e h = (
  λ z. let u = h.0 z in (u.0, u.1, u.3),
  λ z u. h.1 z (u.0, u.1, subst (λ k. agrees k u.0 ≡ true) (sym e) refl, u.2),
)

pub reached_reports : (tb : Table) (t : ℕ) (rows : List Pattern) (p : Pattern) (k : Known) (b : Bool) → IsMatch tb t rows → IsPattern tb t p → k ≡ known_of p → Reports b (Left tb t rows k) → Reports b (Reached tb t rows p)
reached_reports tb t rows p k b m q e h = (
  λ z. let u = h.0 z in (u.0, u.1, fit tb 0 t p (known_of p) u.0 q (known_alive tb 0 t p m.tidy m.inhabited q) u.1 (self p) (subst (λ k. agrees k u.0 ≡ true) e u.2), u.3),
  λ z u. h.1 z (u.0, u.1, subst (λ k. agrees k u.0 ≡ true) (sym e) (fit_agrees p u.0 u.2), u.3),
)
