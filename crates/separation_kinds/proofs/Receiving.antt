-- Registers that get results, one after another.
use Rattle.std.proofs.Common.{◌≡◌, inl, inr, ℕ, ◌+◌, ◌<◌, true, false, ◌&&◌, not, List, [], ◌∷◌, length, Some, refl, sym, ap, ◌∙◌, subst, arith, nat_lt, ◌==◌}
use Rattle.std.specs.Prelude.{option_and_then, slice_set}
use Rattle.machine_semantics.specs.fip_language.Table.{Table}
use Rattle.machine_semantics.specs.fip_language.Store.{Placed, Parts, NoParts, MoreParts, uses_of_all, word_of, words_of}
use Rattle.machine_semantics.specs.cell_code.declared.kind.Kind.{Kind}
use Rattle.machine_semantics.specs.cell_code.declared.kind.Kind.TheVariants.{Gone}
use Rattle.machine_semantics.specs.Cells.{Store}
use Rattle.machine_semantics.specs.Trees.{StandAll}
use Rattle.machine_semantics.specs.Rows.{write_all}
use Rattle.machine_semantics.specs.Apart.{Holding, Tree}
use Rattle.code_rules.specs.Types.{field_kind}
use Rattle.code_rules.specs.Kinds.{has, at, is_free}
use Rattle.code_rules.specs.Ranges.{are_below}
use Rattle.code_rules.specs.Asked.{are_places}
use Rattle.code_rules.specs.Changes.{written, forget}
use Rattle.code_rules.specs.Leaves.{received}
use Rattle.separation_kinds.specs.Meanings.{AreMeant, owned_by, word_at}
use Rattle.separation_kinds.proofs.Basics.{refused, apart, both, refuted, or_not, equal_is, unequal_is, below as below_lt, length_become}
use Rattle.separation_kinds.proofs.KindLemmas.{free_forget, free_uses, put, dropped, is_one, at_written}
use Rattle.separation_kinds.proofs.Changing.{written_meant, count_written, free_not_owned}
use Rattle.separation_kinds.proofs.Words.{set_length, set_word, writes}
use Rattle.separation_kinds.proofs.Takes.{field_means}
use Rattle.separation_kinds.proofs.Taken.{field_uses}

pub reword : (tb : Table) (s : Store) (below : List Placed) (ks : ℕ → Kind) (ws vs : ℕ → ℕ) (hs : ℕ → Holding) → ((r : ℕ) → vs r ≡ ws r) → AreMeant tb s below ks ws hs → AreMeant tb s below ks vs hs
reword tb s below ks ws vs hs e m = let same : ◌≡◌ {A = ℕ → ℕ} ws vs = λ i r. sym (e r) i in subst (λ (f : ℕ → ℕ). AreMeant tb s below ks f hs) same m

pub free_written : (ks : List Kind) (d : ℕ) (k : Kind) (r : ℕ) → d < length ks → (r ≡ d → ⊥) → is_free (at (written ks d k) r) ≡ is_free (at ks r)
free_written ks d k r there off =
    let e = unequal_is r d off in
    ap is_free (at_written ks d k there r ∙ refused (r == d) (forget (is_one d) k) (dropped (is_one d) (at ks) r) e ∙ refused (r == d) Gone (forget (is_one d) (at ks r)) e) ∙ free_forget (is_one d) (at ks r)

places_written : (ks : List Kind) (d : ℕ) (k : Kind) (ds : List ℕ) → d < length ks → has ds d ≡ false → are_places ks ds ≡ true → are_places (written ks d k) ds ≡ true
places_written ks d k [] there off p = refl
places_written ks d k (e ∷ ds) there off p =
    let a = both (is_free (at ks e)) (not (has ds e) && are_places ks ds) p in
    let b = both (not (has ds e)) (are_places ks ds) a.1 in
    let other : e ≡ d → ⊥ = λ z. apart (has (e ∷ ds) d) (rw (equal_is e d z) refl) off in
    let rest : has ds d ≡ false = elim (or_not (has ds d)) as (λ v. has ds d ≡ false) [ inl y ↦ apart (has (e ∷ ds) d) (rw (unequal_is e d other, y) refl) off | inr z ↦ z ] in
    rw (free_written ks d k e there other ∙ a.0, b.0) (places_written ks d k ds there rest b.1)

pub record AreReceived (tb : Table) (s : Store) (below : List Placed) (ks : List Kind) (ws : List ℕ) (hs : ℕ → Holding) (ds ts : List ℕ) (ps : Parts) : Type 0 where
  pub words : List ℕ
  pub is : write_all ws ds (words_of ps) ≡ Some words
  pub long : length words ≡ length ws
  pub wide : length (received tb ks ds ts) ≡ length ks
  pub holds : ℕ → Holding
  pub meant : AreMeant tb s below (at (received tb ks ds ts)) (word_at words) holds
  pub count : (q : ℕ) → owned_by q (at (received tb ks ds ts)) holds (length ks) ≡ owned_by q (at ks) hs (length ks) + uses_of_all q ps

pub are_received : (tb : Table) (s : Store) (below : List Placed) (ks : List Kind) (ws : List ℕ) (hs : ℕ → Holding) (ds ts : List ℕ) (ps : Parts) → length ws ≡ length ks → length ds ≡ length ts → are_places ks ds ≡ true → are_below (length ks) ds ≡ true → StandAll tb s ts ps → AreMeant tb s below (at ks) (word_at ws) hs → AreReceived tb s below ks ws hs ds ts ps
are_received tb s below ks ws hs [] [] NoParts w l p b g m = record { words = ws; is = refl; long = refl; wide = refl; holds = hs; meant = m; count = λ q. omega arith }
are_received tb s below ks ws hs [] [] (MoreParts x xs) w l p b g m = absurd g
are_received tb s below ks ws hs [] (t ∷ ts) ps w l p b g m = absurd (omega arith)
are_received tb s below ks ws hs (d ∷ ds) [] ps w l p b g m = absurd (omega arith)
are_received tb s below ks ws hs (d ∷ ds) (t ∷ ts) NoParts w l p b g m = absurd g
are_received tb s below ks ws hs (d ∷ ds) (t ∷ ts) (MoreParts x xs) w l p b g m =
    let a = both (is_free (at ks d)) (not (has ds d) && are_places ks ds) p in
    let c = both (not (has ds d)) (are_places ks ds) a.1 in
    let e = both (nat_lt d (length ks)) (are_below (length ks) ds) b in
    let there = below_lt d (length ks) e.0 in
    let within : d < length ws = omega arith in
    let k : Kind = field_kind tb t in
    let next : List Kind = written ks d k in
    let wide : length next ≡ length ks = length_become ks _ in
    let us : List ℕ = slice_set ws d (word_of x) in
    let long : length us ≡ length ws = set_length ws d (word_of x) in
    let gs : ℕ → Holding = put d (Tree x) hs in
    let meant : AreMeant tb s below (at next) (word_at us) gs = reword tb s below (at next) (put d (word_of x) (word_at ws)) (word_at us) gs (set_word ws d (word_of x) within) (written_meant tb s below ks (word_at ws) hs d k (word_of x) (Tree x) there (free_not_owned (at ks d) a.0) m (field_means tb s below (at ks) hs t (word_of x) x (record { word = refl; stands = g.0 }))) in
    let rest = are_received tb s below next us gs ds ts xs (long ∙ w ∙ sym wide) (omega arith) (places_written ks d k ds there (refuted (has ds d) c.0) c.1) (subst (λ n. are_below n ds ≡ true) (sym wide) e.1) g.1 meant in
    record {
      words = rest.words;
      is = ap (λ o. option_and_then (λ us. write_all us ds (words_of xs)) o) (writes ws d (word_of x) within) ∙ rest.is;
      long = rest.long ∙ long;
      wide = rest.wide ∙ wide;
      holds = rest.holds;
      meant = rest.meant;
      count = λ q.
          let i = rest.count q in
          let j = count_written q ks hs d k (Tree x) there in
          let z = free_uses q (at ks d) (hs d) a.0 in
          let f = field_uses tb s t x q g.0 in
          let u = ap (owned_by q (at (received tb next ds ts)) rest.holds) wide in
          let v = ap (owned_by q (at next) gs) wide in
          omega arith;
    }
