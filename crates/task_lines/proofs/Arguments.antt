-- The values in the brackets of a line, one after another.
-- Idea: what was read so far, and what could stand there as a whole, are one: a text begins with one value of a type.
use Rattle.std.proofs.Common.{◌≡◌, ◌∙◌, ◌≤◌, ◌<◌, ◌+◌, ◌-◌, ℕ, zero, suc, List, [], ◌∷◌, ◌++◌, length, length-append, map, take, drop, get_or, append_assoc, append-nil, refl, sym, ap, subst, arith}
use Rattle.std.proofs.Math.Seq.{drop-cons}
use Rattle.std.proofs.lemmas.List.{length-map, take-append-drop}
use Rattle.fip_language.specs.Character as C
use Rattle.fip_language.specs.Character.{Character, characters}
use Rattle.fip_language.specs.SoundTable.{IsSoundTable}
use Rattle.fip_language.specs.Table.{Table}
use Rattle.fip_language.specs.Values.{Value, Values, End, More, cells, cells_of_all}
use Rattle.fip_language.specs.ValueText.{ValueText}
use Rattle.session_lines.specs.session_semantics.Lines.{Symbol, Close, Comma, WrittenText, SignText, symbol, symbols}
use Rattle.value_text.specs.Machine.{join, snoc}
use Rattle.value_text.specs.Single.{BeginsWith, IsValueAt}
use Rattle.value_text.specs.declared.counts.Counts.{Counts}
use Rattle.value_text.proofs.OneValue.{value_same}
use Rattle.value_text.proofs.Tables.{is_table}
use Rattle.session_values.specs.Read.{IsTextOf, Adds}
use Rattle.task_lines.specs.Reading.{Closes, Further, Given, After, AreAt, IsNext}
use Rattle.session_values.proofs.OneValue.{sign_not_open, text_of, same_value, join_snoc, join_end, cells_snoc, adds_none, adds_both}
use Rattle.session_values.proofs.Symbols.{chr, IsOneLine, chars_are, one_line_drop, are_read, Suffix, skip_chr}
use Rattle.session_values.proofs.Bridge.{NotOpen, value_written, value_spelt}
use Rattle.fip_language.proofs.Facts.{drop_past as none_after}

closes_not_open : (cs : List Symbol) → Closes cs → NotOpen (map chr cs)
closes_not_open cs h = sign_not_open cs h.0 Close C.Close h.1 refl (λ e. cc)

further_not_open : (tb : Table) (ks : List ℕ) (cs : List Symbol) (vs : Values) → Further tb ks cs vs → NotOpen (map chr cs)
further_not_open tb [] cs End h = closes_not_open cs h
further_not_open tb [] cs (More v vs) h = absurd h
further_not_open tb (k ∷ ks) cs End h = absurd h
further_not_open tb (k ∷ ks) cs (More v vs) h = sign_not_open cs h.0 Comma C.Comma h.2 refl (λ e. cc)

pub record IsReadTo (tb : Table) (bytes types : List ℕ) (start i at : ℕ) (places : List ℕ) (first now : Counts) : Type 0 where
  pub done : Values
  pub given : (us : Values) → After i tb (drop i types) (symbols (drop at bytes)) us → Given tb types (symbols (drop start bytes)) (join done us)
  pub back : (vs : Values) → Given tb types (symbols (drop start bytes)) vs → (us : Values) × (vs ≡ join done us) × After i tb (drop i types) (symbols (drop at bytes)) us
  pub stand : (ps : List ℕ) (us : Values) → AreAt tb bytes (drop i types) ps us → AreAt tb bytes types (places ++ ps) (join done us)
  pub counts : Adds first now (λ k. cells_of_all k done)

pub reading_starts : (tb : Table) (bytes types : List ℕ) (start : ℕ) (first : Counts) → IsReadTo tb bytes types start 0 start [] first first
reading_starts tb bytes types start first = record {
  done = End;
  given = λ us h. h;
  back = λ vs h. (vs, refl, h);
  stand = λ ps us h. h;
  counts = adds_none first (λ k. 0) (λ k. refl);
}

-- the values after the first ones begin with the one that was read
module _ (tb : Table) (sound : IsSoundTable tb) (bytes : List ℕ) (one : IsOneLine bytes) (ty at p e : ℕ) (v : Value) where
  forth : (i : ℕ) (ks : List ℕ) (us : Values) → IsNext tb i ty bytes at p v e → Further tb ks (symbols (drop e bytes)) us → After i tb (ty ∷ ks) (symbols (drop at bytes)) (More v us)
  forth zero ks us n h =
      let t = text_of tb sound bytes one ty p e v n.value (further_not_open tb ks (symbols (drop e bytes)) us h) in
      (symbols (drop e bytes), subst (λ q. IsTextOf tb ty (symbols (drop q bytes)) v (symbols (drop e bytes))) (n.first refl) t, h)
  forth (suc i) ks us n h =
      let t = text_of tb sound bytes one ty p e v n.value (further_not_open tb ks (symbols (drop e bytes)) us h) in
      (symbols (drop p bytes), symbols (drop e bytes), n.further (omega arith), t, h)

  abbrev Split : List ℕ → Values → Type 0
  Split ks us = (ws : Values) × (us ≡ More v ws) × Further tb ks (symbols (drop e bytes)) ws

  split : (ks : List ℕ) (u : Value) (us : Values) (after : List Symbol) → IsValueAt tb ty bytes p v e → IsTextOf tb ty (symbols (drop p bytes)) u after → Further tb ks after us → Split ks (More u us)
  split ks u us after h t f =
      let s = same_value tb sound bytes one ty p e v u after h t in
      (us, ap (λ x. More x us) s.0, subst (λ cs. Further tb ks cs us) s.1 f)

  rest_same : (a b : List Symbol) (s : Symbol) (cs : List Symbol) → SignText s cs a → SignText s cs b → a ≡ b
  rest_same a b s cs h k = let x : s ∷ a ≡ s ∷ b = sym h ∙ k in cc

  apart : (i : ℕ) (ks : List ℕ) (us : Values) → IsNext tb i ty bytes at p v e → After i tb (ty ∷ ks) (symbols (drop at bytes)) us → Split ks us
  apart zero ks End n h = absurd h
  apart zero ks (More u us) n h = split ks u us h.0 n.value (subst (λ q. IsTextOf tb ty (symbols (drop q bytes)) u h.0) (sym (n.first refl)) h.1) h.2
  apart (suc i) ks End n h = absurd h
  apart (suc i) ks (More u us) n h =
      let same = rest_same h.0 (symbols (drop p bytes)) Comma (symbols (drop at bytes)) h.2 (n.further (omega arith)) in
      split ks u us h.1 n.value (subst (λ cs. IsTextOf tb ty cs u h.1) same h.3) h.4

pub reading_on : (tb : Table) (bytes types : List ℕ) (start i at p e ty : ℕ) (v : Value) (places new : List ℕ) (first now next : Counts) → IsSoundTable tb → IsOneLine bytes → i < length types → get_or types i 0 ≡ ty → IsNext tb i ty bytes at p v e → Adds now next (λ k. cells k v) → new ≡ places ++ p ∷ [] → IsReadTo tb bytes types start i at places first now → IsReadTo tb bytes types start (i + 1) e new first next
reading_on tb bytes types start i at p e ty v places new first now next sound one lt is n adds pushed r =
    let ks : List ℕ = drop (suc i) types in
    let here : drop i types ≡ ty ∷ ks = drop-cons types i 0 lt ∙ ap (λ k. k ∷ ks) is in
    let more : i + 1 ≡ suc i = omega arith in
    subst (λ j. IsReadTo tb bytes types start j e new first next) (sym more) (record {
      done = snoc r.done v;
      given = λ us h. subst (Given tb types (symbols (drop start bytes))) (sym (join_snoc r.done v us)) (r.given (More v us) (subst (λ ls. After i tb ls (symbols (drop at bytes)) (More v us)) (sym here) (forth tb sound bytes one ty at p e v i ks us n h)));
      back = λ vs h.
          let b = r.back vs h in
          let s = apart tb sound bytes one ty at p e v i ks b.0 n (subst (λ ls. After i tb ls (symbols (drop at bytes)) b.0) here b.2) in
          (s.0, b.1 ∙ ap (join r.done) s.1 ∙ sym (join_snoc r.done v s.0), s.2);
      stand = λ ps us h.
          let all = r.stand (p ∷ ps) (More v us) (subst (λ ls. AreAt tb bytes ls (p ∷ ps) (More v us)) (sym here) (n.within, n_begins n, h)) in
          subst (λ qs. AreAt tb bytes types qs (join (snoc r.done v) us)) (sym (ap (λ qs. qs ++ ps) pushed ∙ append_assoc places (p ∷ []) ps)) (subst (AreAt tb bytes types (places ++ p ∷ ps)) (sym (join_snoc r.done v us)) all);
      counts = adds_both first now next (λ k. cells_of_all k r.done) (λ k. cells k v) (λ k. cells_of_all k (snoc r.done v)) (λ k. cells_snoc k r.done v) r.counts adds;
    })
  where
    n_begins : IsNext tb i ty bytes at p v e → BeginsWith tb ty (drop p bytes) v
    n_begins n = (characters (drop e bytes), n.value.text)

-- ---- after the last value

closed : (i : ℕ) (tb : Table) (cs : List Symbol) → Closes cs → After i tb [] cs End
closed zero tb cs h = h
closed (suc i) tb cs h = h

closes : (i : ℕ) (tb : Table) (cs : List Symbol) (us : Values) → After i tb [] cs us → (us ≡ End) × Closes cs
closes zero tb cs End h = (refl, h)
closes zero tb cs (More v us) h = absurd h
closes (suc i) tb cs End h = (refl, h)
closes (suc i) tb cs (More v us) h = absurd h

pub reading_ends : (tb : Table) (bytes types : List ℕ) (start i at : ℕ) (places : List ℕ) (first now : Counts) → length types ≤ i → (r : IsReadTo tb bytes types start i at places first now) → Closes (symbols (drop at bytes)) → Given tb types (symbols (drop start bytes)) r.done × AreAt tb bytes types places r.done
reading_ends tb bytes types start i at places first now le r h =
    let none = none_after types i le in (
      subst (Given tb types (symbols (drop start bytes))) (join_end r.done) (r.given End (subst (λ ks. After i tb ks (symbols (drop at bytes)) End) (sym none) (closed i tb (symbols (drop at bytes)) h))),
      subst (λ qs. AreAt tb bytes types qs r.done) (append-nil places) (subst (AreAt tb bytes types (places ++ [])) (join_end r.done) (r.stand [] End (subst (λ ks. AreAt tb bytes ks [] End) (sym none) tt))),
    )

pub never_closed : (tb : Table) (bytes types : List ℕ) (start i at : ℕ) (places : List ℕ) (first now : Counts) → length types ≤ i → IsReadTo tb bytes types start i at places first now → (Closes (symbols (drop at bytes)) → ⊥) → (vs : Values) → Given tb types (symbols (drop start bytes)) vs → ⊥
never_closed tb bytes types start i at places first now le r never vs h =
    let b = r.back vs h in
    never (closes i tb (symbols (drop at bytes)) b.0 (subst (λ ks. After i tb ks (symbols (drop at bytes)) b.0) (none_after types i le) b.2)).1

-- where the next value doesn't come
pub never_next : (tb : Table) (bytes types : List ℕ) (start i at ty : ℕ) (places : List ℕ) (first now : Counts) → i < length types → get_or types i 0 ≡ ty → IsReadTo tb bytes types start i at places first now → ((ks : List ℕ) (us : Values) → After i tb (ty ∷ ks) (symbols (drop at bytes)) us → ⊥) → (vs : Values) → Given tb types (symbols (drop start bytes)) vs → ⊥
never_next tb bytes types start i at ty places first now lt is r never vs h =
    let b = r.back vs h in
    let here : drop i types ≡ ty ∷ drop (suc i) types = drop-cons types i 0 lt ∙ ap (λ k. k ∷ drop (suc i) types) is in
    never (drop (suc i) types) b.0 (subst (λ ks. After i tb ks (symbols (drop at bytes)) b.0) here b.2)
