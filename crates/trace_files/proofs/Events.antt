-- An event that is read: its step, its operation and its place, and then what the operation requires.
use Rattle.std.proofs.Common.{◌≡◌, ◌≢◌, ◌∙◌, ℕ, ◌≤◌, Bool, List, length, Some, sym, ap, ap₂, arith, nat_le, nat_lt}
use Rattle.std.proofs.lemmas.Bool.{le-leb, lt-ltb}
use Rattle.run_loading.specs.machine_semantics.Cells.{Release}
use Rattle.run_loading.specs.TraceReading.{Got, read_number, read_write, read_change, read_event}
use Rattle.run_loading.specs.TraceText.{Loaded, size_at}
use Rattle.trace_files.specs.Reading.{Spot, AreRising, left, IsLive}
use Rattle.trace_files.proofs.Live.{live_size}
use Rattle.trace_files.proofs.Steps.{then_got, asked_yes}

-- after the place of an event
event_at : (live : List Loaded) (least : ℕ) (s t u v : Spot) (step op place : ℕ) → read_number 8 0 s.at s.rest ≡ Got step t.at t.rest → least ≤ step → read_number 1 0 t.at t.rest ≡ Got op u.at u.rest → op ≤ 1 → read_number 4 0 u.at u.rest ≡ Got place v.at v.rest → read_event live least s.at s.rest ≡ read_change s.at step op place (size_at place live) v.at v.rest
event_at live least s t u v step op place h le k op_le l =
    then_got (read_number 8 0 s.at s.rest) _ step t.at t.rest h
    ∙ asked_yes (nat_le least step) s.at _ (le-leb least step le)
    ∙ then_got (read_number 1 0 t.at t.rest) _ op u.at u.rest k
    ∙ asked_yes (nat_lt op 2) t.at _ (lt-ltb op 2 (omega arith))
    ∙ then_got (read_number 4 0 u.at u.rest) _ place v.at v.rest l

-- a cell that is live is released, or gets words
module _ (cs : List Loaded) (rs : List Bool) (least number : ℕ) (s t u v : Spot) (step op place : ℕ) (rising : AreRising 0 cs) (h : read_number 8 0 s.at s.rest ≡ Got step t.at t.rest) (le : least ≤ step) (k : read_number 1 0 t.at t.rest ≡ Got op u.at u.rest) (l : read_number 4 0 u.at u.rest ≡ Got place v.at v.rest) (live : IsLive cs rs place number) where
  pub release_read : op ≡ 1 → read_event (left cs rs) least s.at s.rest ≡ Got (record { step = step; change = Release place }) v.at v.rest
  release_read is =
      event_at (left cs rs) least s t u v step op place h le k (omega arith) l
      ∙ ap₂ (λ o n. read_change s.at step o place n v.at v.rest) is (live_size cs rs place number rising live)

  pub write_read : op ≤ 1 → op ≢ 1 → (size : ℕ) → size ≡ length live.cell.fields → read_event (left cs rs) least s.at s.rest ≡ read_write step place size v.at v.rest
  write_read low not size same =
      let none : op ≡ 0 = omega (arith, low, not) in
      event_at (left cs rs) least s t u v step op place h le k low l
      ∙ ap₂ (λ o n. read_change s.at step o place n v.at v.rest) none (live_size cs rs place number rising live ∙ ap Some (sym same))
