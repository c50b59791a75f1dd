-- What a reader has read, by its fields.
use Rattle.std.proofs.lemmas.{List.{append-nil, length-map}}
use Rattle.std.proofs.Common.{arith, ◌≡◌, ◌≢◌, ◌∙◌, sym, ap, ap₂, subst, refl, ℕ, ◌+◌, ◌<◌, ◌≤◌, ◌^◌, ◌⊎◌, inl, inr, ⊎_elim, Bool, true, false, List, [], ◌∷◌, ◌++◌, map, length, append_assoc, length-append, decimal, get_or, eqb, Option, None, Some, Result, Ok, Err}
use Rattle.std.specs.{Option.ok_or, List.{IsDistinct, slice_index_or, All}}
use Rattle.edr_image.specs.declared.{Ack.Ack, Applied.{Applied, TheVariants.NotKept}, BankView.BankView, Found.Found, Kind.Kind}
use Rattle.edr_image.specs.{Banks.found_event, Reports.{Report, Ran, report_of}}
use Rattle.edr_image.specs.declared.BankView.TheVariants as view
use Rattle.edr_record.specs.declared.Record.{Record}
use Rattle.edr_report.specs.{Words.{applied_words, shown_count}, declared.TheConstants.LARGEST_SHOWN_COUNT}
use Rattle.edr_reading.specs.declared.{event.PartEvent.PartEvent, reader.{Refused.Refused, NextRow.NextRow, Reader.Reader}}
use Rattle.edr_reading.specs.declared.values.{CycleRow.CycleRow, ToldName.ToldName}
use Rattle.edr_reading.specs.Reading.{HasNoBank, IsNextEvent, event_of, ReportGoesOn, AreReport, IsCycleRow, IsToldName, banks_in, name_words, row_words, IsReport, IsDamaged, IsApplied, IsBank, IsDamagedView, view_words, IsRecord, AreDistinct, head_row, FieldRows}
use Rattle.edr_reading.specs.Reader.{AtLine, HasReadRows, IsBetween, IsOnlyName, IsRefused, MayBegin, MayHaveEvent, MayTell, StandsNext, TakesRow, cycles_read, last_cycle, may_ack, MayFollow, whole}
use Rattle.edr_reading.specs.declared.values.CycleRow.TheVariants as row
use Rattle.edr_reading.specs.declared.values.ToldName.TheVariants as name
use Rattle.edr_reading.specs.declared.reader.NextRow.TheVariants as next
use Rattle.edr_reading.specs.declared.reader.Refused.TheVariants as refused
use Rattle.edr_reading.proofs.WholeLemmas.{alone, report-told, whole-cycle, whole-damaged, distinct-more}
use Rattle.edr_reading.proofs.EventLemmas.{AcceptsPlace, event_names, line-alone, first-line, line-last, line-most, line-next}
use Rattle.edr_reading.proofs.BetweenLemmas.{banks-last, found-last, told-ack, whole-ack, row-more, run-told, started, started-is, opens, only-next, All-last, between-block, between-count, refuse-1, refuse-2, refuse-3, start-between, told-next, ToldNext, next-row, some-rows}

pub stands-as : (n m : NextRow) (last first : Option CycleRow) (reports rs : List Report) (found fs : List Found) (rows : FieldRows) → n ≡ m → last ≡ first → reports ≡ rs → found ≡ fs → StandsNext m first rs fs rows → StandsNext n last reports found rows
stands-as n m last first reports rs found fs rows a b c d h = rw (a, b, c, d) h

-- ---- between events

pub record InBetween (r : Reader) (rows : FieldRows) : Type 0 where
  pub acks : Bool
  pub cycles : Bool
  pub events : Bool
  pub es : List (ℕ × Record)
  pub ds : List Found
  pub found : r.found.items ≡ map found_event es ++ ds
  pub at : IsBetween acks cycles events (cycles_read r) es ds rows
  pub few : length es + 1 < 2 ^ 64
  pub has_acks : acks ≡ true → (r.next ≡ next.Run) × (may_ack r.last ≡ true)
  pub has_cycles : cycles ≡ true → r.next ≡ next.Run
  pub has_events : events ≡ true → (ds ≡ []) × ((r.next ≡ next.Run) ⊎ (r.next ≡ next.Events))

few-events : (r : Reader) (rows : FieldRows) (es : List (ℕ × Record)) (ds : List Found) → HasReadRows r rows → r.found.items ≡ map found_event es ++ ds → length es + 1 < 2 ^ 64
few-events r rows es ds h e = let a = length-append (map found_event es) ds in let b = length-map es found_event in omega (arith, ap length e, a, b, h.few, h.short)

pub in-between : (r : Reader) (rows : FieldRows) → HasReadRows r rows → MayBegin r.next → InBetween r rows
in-between r rows h b = by r.next refl h.stands b
  where
    at-all : (a c v : Bool) (es : List (ℕ × Record)) (ds : List Found) → r.found.items ≡ map found_event es ++ ds → IsBetween a c v (cycles_read r) es ds rows → (a ≡ true → (r.next ≡ next.Run) × (may_ack r.last ≡ true)) → (c ≡ true → r.next ≡ next.Run)
        → (v ≡ true → (ds ≡ []) × ((r.next ≡ next.Run) ⊎ (r.next ≡ next.Events))) → InBetween r rows
    at-all a c v es ds found at ack cycle event = record { acks = a; cycles = c; events = v; es = es; ds = ds; found = found; at = at; few = few-events r rows es ds h found; has_acks = ack; has_cycles = cycle; has_events = event }

    by : (n : NextRow) → r.next ≡ n → StandsNext n r.last (cycles_read r) r.found.items rows → MayBegin n → InBetween r rows
    by next.Head e s b = absurd (b.0 refl)
    by next.Run e s b = at-all (may_ack r.last) true true [] [] s.0 s.1 (λ t. (e, t)) (λ t. e) (λ t. (refl, inl e))
    by next.Events e s b = at-all false false true s.0 [] (s.1 ∙ sym (append-nil (map found_event s.0))) s.2 (λ t. cc) (λ t. cc) (λ t. (refl, inr e))
    by (next.Line k p) e s b = absurd (b.1 k p refl)
    by next.Damaged e s b = at-all false false false s.0 s.1 s.2 s.3 (λ t. cc) (λ t. cc) (λ t. cc)
    by (next.Nothing n) e s b = absurd (b.2 n refl)

-- what a row's name says may be told
may-tell : {r : Reader} {rows : FieldRows} (m : InBetween r rows) (more : FieldRows) (value : List ℕ) (x : ToldName) → r.rows ≡ length rows → length rows + 1 + length more ≤ 4_294_967_294
    → ToldNext m.acks m.cycles m.events (length (cycles_read r)) (length m.es + 1) (banks_in (map found_event m.es ++ m.ds)) value more x → MayTell r x
may-tell m more value name.Cycle count short t = let s = some-rows t.4 in (omega (arith, count, short, s), m.has_cycles t.0)
may-tell m more value (name.Ack k tick) count short t = let s = some-rows t.4 in let o = m.has_acks t.0 in (omega (arith, count, short, s), o.0, o.1)
may-tell m more value (name.Bank b) count short t =
    let s = some-rows t.5 in
    (omega (arith, count, short, s), subst (λ (x : List Found). HasNoBank x b) (sym m.found) (alone (map found_event m.es ++ m.ds) b t.3 t.4))
may-tell m more value name.Count count short t = tt

module _ (r : Reader) (rows : FieldRows) (w value : List ℕ) (h : HasReadRows r rows) (begins : MayBegin r.next) where
  -- a name that may not be told is refused
  pub name-refused : ((x : ToldName) → IsToldName x → w ≡ name_words (length (cycles_read r)) x → MayTell r x → ⊥) → IsRefused rows (decimal 0 ∷ w ∷ value ∷ []) (refused.Field 2)
  name-refused never =
      let m = in-between r rows h begins in
      refuse-2 rows (decimal 0) w value (between-block m.at)
      (λ g. let n = told-next m.at m.few w g.0 g.1 g.2 in
      let l = length-append rows ((decimal 0 ∷ w ∷ g.0) ∷ g.1) in
      never n.0 n.1 n.3 (may-tell m g.1 n.2 n.0 h.count (omega (arith, l, (report-told _ g.2).6)) n.5))

  -- a row of another block than 0 and the next is refused
  pub block-refused : (b : List ℕ) → b ≢ decimal 0 → (MayHaveEvent r → (bank : ℕ) → IsBank bank → HasNoBank r.found.items bank → b ≡ decimal (length r.found.items + 1) → ⊥) → IsRefused rows (b ∷ w ∷ value ∷ []) (refused.Field 1)
  block-refused b other never =
      let m = in-between r rows h begins in
      refuse-1 rows b w value
      (λ g. let row = b ∷ g.0 in
      ⊎_elim
      (λ l. other (ap (λ (x : List (List ℕ)). slice_index_or x 0 []) l.3))
      (λ n. let has = m.has_events n.0 in
      let line = n.3 n.2 in
      let l = length-append rows (row ∷ g.1) in
      let most = line-most line in
      let none-here = line-alone (map found_event m.es ++ m.ds) line in
      let long : length r.found.items ≡ length m.es = ap length (m.found ∙ ap (λ (x : List Found). map found_event m.es ++ x) has.0 ∙ append-nil (map found_event m.es)) ∙ length-map m.es found_event in
      never (has.1, omega (arith, h.count, l, (report-told _ g.2).6, most)) line.event.0 line.bounds.0 (subst (λ (x : List Found). HasNoBank x line.event.0) (sym m.found) none-here) (n.1 ∙ ap (λ (k : ℕ). decimal (k + 1)) (sym long)))
      (next-row row g.1 (m.at.rest (row ∷ g.1) g.2)))

-- ---- rows that are taken

-- a reader has read one row more
read-on : {r s : Reader} {rows : FieldRows} (row : List (List ℕ)) → HasReadRows r rows → s.rows ≡ r.rows + 1
    → length (cycles_read s) + length s.found.items ≤ length (cycles_read r) + length r.found.items + 1 → length s.acks.items ≤ length r.acks.items + 1 → length rows + 1 ≤ 4_294_967_294 → (s.last ≡ None → s.run.items ≡ [])
    → StandsNext s.next s.last (cycles_read s) s.found.items (rows ++ row ∷ []) → HasReadRows s (rows ++ row ∷ [])
read-on {rows = rows} row h one more more_acks short first stands =
    let long = length-append rows (row ∷ []) in
    record { count = omega (arith, h.count, long); few = omega (arith, h.few, long); few_acks = omega (arith, h.few_acks, long); short = omega (arith, long); first = first; stands = stands }

at-head : {r : Reader} {rows : FieldRows} → HasReadRows r rows → r.next ≡ next.Head → (r.last ≡ None) × (cycles_read r ≡ []) × (r.found.items ≡ []) × (rows ≡ [])
at-head {r} {rows} h e = subst (λ (n : NextRow). StandsNext n r.last (cycles_read r) r.found.items rows) e h.stands

in-run : {r : Reader} {rows : FieldRows} → HasReadRows r rows → r.next ≡ next.Run → (r.found.items ≡ []) × IsBetween (may_ack r.last) true true (cycles_read r) [] [] rows
in-run {r} {rows} h e = subst (λ (n : NextRow). StandsNext n r.last (cycles_read r) r.found.items rows) e h.stands

pub head-read : (r : Reader) (rows : FieldRows) (row : List (List ℕ)) → HasReadRows r rows → r.next ≡ next.Head → row ≡ head_row → HasReadRows (record r { next = next.Run; rows = r.rows + 1 }) (rows ++ row ∷ [])
head-read r rows row h e is =
    let t = at-head h e in
    read-on row h refl (omega arith) (omega arith) (omega (arith, ap length t.3)) h.first
    (stands-as next.Run next.Run r.last None (cycles_read r) [] r.found.items [] _ refl t.0 t.1 t.2 (refl, subst (IsBetween false true true [] [] []) (sym (ap₂ (λ (x : FieldRows) (y : List (List ℕ)). x ++ y ∷ []) t.3 is)) start-between))

pub head-refused : (r : Reader) (rows : FieldRows) (b w v : List ℕ) (f : ℕ) → HasReadRows r rows → r.next ≡ next.Head → IsRefused [] (b ∷ w ∷ v ∷ []) (refused.Field f) → IsRefused rows (b ∷ w ∷ v ∷ []) (refused.Field f)
head-refused r rows b w v f h e is = subst (λ (x : FieldRows). IsRefused x (b ∷ w ∷ v ∷ []) (refused.Field f)) (sym (at-head h e).3) is

module _ (r : Reader) (rows : FieldRows) (w value : List ℕ) (h : HasReadRows r rows) where
  -- where a reader stands after the first row of a cycle
  cycle-stands : (first : CycleRow) → IsOnlyName r w name.Cycle → IsCycleRow first → value ≡ row_words first → ((d : CycleRow) → IsCycleRow d → value ≡ row_words d → may_ack (Some first) ≡ may_ack (Some d))
      → IsBetween (may_ack (Some first)) true true (cycles_read r ++ started first ∷ []) [] [] (rows ++ (decimal 0 ∷ w ∷ value ∷ []) ∷ [])
  cycle-stands first o ok shows same =
      let b = (in-run h o.may.1).1 in
      let reports = cycles_read r in
      let f = started-is (length reports + 1) first ok in
      let long = length-append rows ((decimal 0 ∷ w ∷ value ∷ []) ∷ []) in
      record {
        told = run-told (reports ++ started first ∷ []) (All-last IsReport reports (started first) b.told.run f.2);
        are = row-more b.are o.words shows ∙ sym (whole-cycle reports (started first) ∙ ap (λ (x : FieldRows). whole reports [] [] ++ x) f.1);
        short = omega (arith, h.count, o.may.0, long);
        rest = λ more a.
            let n = only-next b (omega arith) w value o.only [] more (subst AreReport (append_assoc rows _ more) a) in
            let m : MayFollow (may_ack (Some first)) true true (length reports + 1) 1 [] more = subst (λ (q : Bool). MayFollow q true true (length reports + 1) 1 [] more) (sym (same n.1 n.2 n.3)) n.4 in
            subst (λ (j : ℕ). MayFollow (may_ack (Some first)) true true j 1 [] more) (sym (length-append reports (started first ∷ []))) m;
      }

  -- after a command that it acknowledged
  ack-stands : (kind : Kind) (tick : ℕ) (applied : Applied) → IsOnlyName r w (name.Ack kind tick) → IsApplied kind applied → value ≡ applied_words applied
      → IsBetween (may_ack r.last) true true (map report_of r.run.items ++ last_cycle r.last (r.acks.items ++ record { tick = tick; kind = kind; applied = applied } ∷ [])) [] [] (rows ++ (decimal 0 ∷ w ∷ value ∷ []) ∷ [])
  ack-stands kind tick applied o ok shows = by r.last refl o.may.2
    where
      k : Ack
      k = record { tick = tick; kind = kind; applied = applied }

      done : List Report
      done = map report_of r.run.items

      by : (l : Option CycleRow) → r.last ≡ l → may_ack l ≡ true → IsBetween (may_ack r.last) true true (done ++ last_cycle r.last (r.acks.items ++ k ∷ [])) [] [] (rows ++ (decimal 0 ∷ w ∷ value ∷ []) ∷ [])
      by None is m = cc
      by (Some (row.StartStopped j)) is m = cc
      by (Some (row.Ran n s)) is m =
          let b = (in-run h o.may.1).1 in
          let acks = r.acks.items in
          let old : cycles_read r ≡ done ++ Ran n s acks ∷ [] = ap (λ (x : Option CycleRow). done ++ last_cycle x acks) is in
          let now : done ++ last_cycle r.last (acks ++ k ∷ []) ≡ done ++ Ran n s (acks ++ k ∷ []) ∷ [] = ap (λ (x : Option CycleRow). done ++ last_cycle x (acks ++ k ∷ [])) is in
          let count : length (cycles_read r) ≡ length done + 1 = ap length old ∙ length-append done (Ran n s acks ∷ []) in
          let words : w ≡ name_words (length done + 1) (name.Ack kind tick) = o.words ∙ ap (λ (j : ℕ). name_words j (name.Ack kind tick)) count in
          let long = length-append rows ((decimal 0 ∷ w ∷ value ∷ []) ∷ []) in
          subst (λ (x : List Report). IsBetween (may_ack r.last) true true x [] [] (rows ++ (decimal 0 ∷ w ∷ value ∷ []) ∷ [])) (sym now) (record {
            told = told-ack done n s acks k (subst (All IsReport) old b.told.run) (o.bounds, ok);
            are = row-more (b.are ∙ ap (λ (x : List Report). whole x [] []) old) words shows ∙ sym (whole-ack done n s acks k);
            short = omega (arith, h.count, o.may.0, long);
            rest = λ more a.
                let m = only-next b (omega arith) w value o.only [] more (subst AreReport (append_assoc rows _ more) a) in
                subst (λ (j : ℕ). MayFollow (may_ack r.last) true true j 1 [] more) (count ∙ sym (length-append done (Ran n s (acks ++ k ∷ []) ∷ []))) m.4;
          })

  -- and after a damaged bank
  damaged-stands : (bank : ℕ) (view : BankView) → IsOnlyName r w (name.Bank bank) → IsDamagedView view → value ≡ view_words view
      → StandsNext next.Damaged r.last (cycles_read r) (r.found.items ++ record { bank = bank; view = view } ∷ []) (rows ++ (decimal 0 ∷ w ∷ value ∷ []) ∷ [])
  damaged-stands bank view o ok shows =
      let m = in-between r rows h o.begins in
      let d : Found = record { bank = bank; view = view } in
      let found = map found_event m.es ++ m.ds in
      let parts = append_assoc (map found_event m.es) m.ds (d ∷ []) in
      let free = subst (λ (x : List Found). HasNoBank x bank) m.found o.may.1 in
      let long = length-append rows ((decimal 0 ∷ w ∷ value ∷ []) ∷ []) in (
        m.es,
        m.ds ++ d ∷ [],
        ap (λ (x : List Found). x ++ d ∷ []) m.found ∙ parts,
        record {
          told = record {
            run = m.at.told.run;
            events = m.at.told.events;
            damaged = All-last IsDamaged m.ds d m.at.told.damaged (o.bounds, ok);
            distinct = subst AreDistinct parts (subst (IsDistinct eqb) (sym (banks-last found d)) (distinct-more found bank m.at.told.distinct free));
          };
          are = row-more m.at.are o.words shows ∙ sym (whole-damaged (cycles_read r) m.es m.ds d);
          short = omega (arith, h.count, o.may.0, long);
          rest = λ more a.
              let n = only-next m.at m.few w value o.only [] more (subst AreReport (append_assoc rows _ more) a) in
              subst (λ (x : List ℕ). MayFollow false false false (length (cycles_read r)) (length m.es + 1) x more) (sym (banks-last found d) ∙ ap banks_in parts) n.5;
        },
      )

  pub count-read : (n : ℕ) → IsOnlyName r w name.Count → value ≡ shown_count n → n ≤ LARGEST_SHOWN_COUNT → HasReadRows (record r { next = next.Nothing n; rows = r.rows + 1 }) (rows ++ (decimal 0 ∷ w ∷ value ∷ []) ∷ [])
  count-read n o shows few =
      let m = in-between r rows h o.begins in
      let long = length-append rows ((decimal 0 ∷ w ∷ value ∷ []) ∷ []) in
      read-on _ h refl (omega arith) (omega arith) m.at.short h.first
      (m.es, m.ds, m.found, m.at.told, row-more m.at.are o.words shows, omega (arith, m.at.short, long), (λ more a. (only-next m.at m.few w value o.only [] more (subst AreReport (append_assoc rows _ more) a)).2), few)

  pub damaged-read : (bank : ℕ) (view : BankView) (e : Reader) → IsOnlyName r w (name.Bank bank) → IsDamagedView view → value ≡ view_words view → e.found.items ≡ r.found.items ++ record { bank = bank; view = view } ∷ []
      → HasReadRows (record r { found = e.found; next = next.Damaged; rows = r.rows + 1 }) (rows ++ (decimal 0 ∷ w ∷ value ∷ []) ∷ [])
  damaged-read bank view e o ok shows is =
      let long = length-append r.found.items (record { bank = bank; view = view } ∷ []) in
      read-on _ h refl (omega (arith, ap length is, long)) (omega arith) (omega (arith, h.count, o.may.0)) h.first (rw is (damaged-stands bank view o ok shows))

  pub cycle-read : (first : CycleRow) (e : Reader) → IsOnlyName r w name.Cycle → IsCycleRow first → value ≡ row_words first → ((d : CycleRow) → IsCycleRow d → value ≡ row_words d → Some first ≡ Some d)
      → map report_of e.run.items ≡ cycles_read r → e.acks.items ≡ [] → e.found.items ≡ r.found.items → (e.next ≡ r.next) × (e.rows ≡ r.rows) → HasReadRows (record e { last = Some first; rows = e.rows + 1 }) (rows ++ (decimal 0 ∷ w ∷ value ∷ []) ∷ [])
  cycle-read first e o ok shows one run acks found next-is =
      let cycles : map report_of e.run.items ++ last_cycle (Some first) e.acks.items ≡ cycles_read r ++ started first ∷ [] = ap₂ (λ (x y : List Report). x ++ y) run (ap (last_cycle (Some first)) acks ∙ (started-is 0 first ok).0) in
      let long = length-append (cycles_read r) (started first ∷ []) in
      let stands = cycle-stands first o ok shows (λ d k s. ap may_ack (one d k s)) in
      read-on _ h (ap (λ (n : ℕ). n + 1) next-is.1) (omega (arith, ap length cycles, ap length found, long)) (omega (arith, ap length acks)) (omega (arith, h.count, o.may.0)) (λ z. cc)
      (stands-as e.next next.Run (Some first) (Some first) _ _ e.found.items [] _ (next-is.0 ∙ o.may.1) refl cycles (found ∙ (in-run h o.may.1).0) (refl, stands))

  pub ack-read : (kind : Kind) (tick : ℕ) (applied : Applied) (e : Reader) → IsOnlyName r w (name.Ack kind tick) → IsApplied kind applied → value ≡ applied_words applied → e.acks.items ≡ r.acks.items ++ record { tick = tick; kind = kind; applied = applied } ∷ []
      → HasReadRows (record r { acks = e.acks; rows = r.rows + 1 }) (rows ++ (decimal 0 ∷ w ∷ value ∷ []) ∷ [])
  ack-read kind tick applied e o ok shows is =
      let long = length-append r.acks.items (record { tick = tick; kind = kind; applied = applied } ∷ []) in
      let more : length (last_cycle r.last e.acks.items) ≤ length (last_cycle r.last r.acks.items) + 1 = one-more r.last in
      let e1 = length-append (map report_of r.run.items) (last_cycle r.last e.acks.items) in
      let e2 = length-append (map report_of r.run.items) (last_cycle r.last r.acks.items) in
      read-on _ h refl (omega (arith, more, e1, e2)) (omega (arith, ap length is, long)) (omega (arith, h.count, o.may.0)) h.first
      (stands-as r.next next.Run r.last r.last _ _ r.found.items [] _ o.may.1 refl (ap (λ (x : List Ack). map report_of r.run.items ++ last_cycle r.last x) is) (in-run h o.may.1).0 (refl, ack-stands kind tick applied o ok shows))
    where
      one-more : (l : Option CycleRow) → length (last_cycle l e.acks.items) ≤ length (last_cycle l r.acks.items) + 1
      one-more None = omega arith
      one-more (Some (row.StartStopped j)) = omega arith
      one-more (Some (row.Ran n s)) = omega arith

-- where a row with a name may stand, a report goes on with the name
named-opens : (r : Reader) (rows : FieldRows) (w : List ℕ) (x : ToldName) → HasReadRows r rows → IsOnlyName r w x → ReportGoesOn rows (decimal 0 ∷ w ∷ [])
named-opens r rows w name.Cycle h o = opens (cycle-stands r rows w (row_words (row.StartStopped 1)) h (row.StartStopped 1) o (omega arith, omega arith) refl same) rows w (row_words (row.StartStopped 1)) refl
  where
    same : (d : CycleRow) → IsCycleRow d → row_words (row.StartStopped 1) ≡ row_words d → false ≡ may_ack (Some d)
    same (row.StartStopped j) k e = refl
    same (row.Ran n s) k e = absurd (let z : 115 ≡ 110 = ap (λ (l : List ℕ). slice_index_or l 0 0) e in omega (arith, z))
named-opens r rows w (name.Ack kind tick) h o = opens (ack-stands r rows w (applied_words NotKept) h kind tick NotKept o (inl refl) refl) rows w (applied_words NotKept) refl
named-opens r rows w (name.Bank bank) h o =
    let v = view.Damaged 0 0 false in
    opens (damaged-stands r rows w (view_words v) h bank v o (omega arith, omega arith) refl).3 rows w (view_words v) refl
named-opens r rows w name.Count h o = (shown_count 0 ∷ [], [], subst (λ (x : List ℕ). AreReport (rows ++ (decimal 0 ∷ x ∷ shown_count 0 ∷ []) ∷ [])) (sym o.words) (between-count (in-between r rows h o.begins).at))

-- a value that none of that name has is refused
pub value-refused : (r : Reader) (rows : FieldRows) (w value : List ℕ) (x : ToldName) → HasReadRows r rows → IsOnlyName r w x → ((a c v : Bool) (i block : ℕ) (banks : List ℕ) (more : FieldRows) → ToldNext a c v i block banks value more x → ⊥) → IsRefused rows (decimal 0 ∷ w ∷ value ∷ []) (refused.Field 3)
value-refused r rows w value x h o never =
    let m = in-between r rows h o.begins in
    refuse-3 rows (decimal 0) w value (named-opens r rows w x h o) (λ q. never _ _ _ _ _ _ q.1 (only-next m.at m.few w value o.only q.0 q.1 q.2))

-- nothing follows the count
pub end-refused : (r : Reader) (rows : FieldRows) (n : ℕ) (b w value : List ℕ) → HasReadRows r rows → r.next ≡ next.Nothing n → IsRefused rows (b ∷ w ∷ value ∷ []) (refused.Field 1)
end-refused r rows n b w value h e =
    let s = subst (λ (x : NextRow). StandsNext x r.last (cycles_read r) r.found.items rows) e h.stands in
    refuse-1 rows b w value (λ g. let z = s.6 ((b ∷ g.0) ∷ g.1) g.2 in cc)

-- ---- rows of an event

pub line-block-refused : (r : Reader) (rows : FieldRows) (k : ℕ) (p : PartEvent) (b w v : List ℕ) → HasReadRows r rows → r.next ≡ next.Line k p → b ≢ decimal (length r.found.items + 1) → IsRefused rows (b ∷ w ∷ v ∷ []) (refused.Field 1)
line-block-refused r rows k p b w v h e other =
    let s = subst (λ (x : NextRow). StandsNext x r.last (cycles_read r) r.found.items rows) e h.stands in
    let long : length r.found.items ≡ length s.0 = ap length s.1 ∙ length-map s.0 found_event in
    refuse-1 rows b w v (λ g. other ((s.3).1 (b ∷ g.0) g.1 g.2 ∙ ap (λ (n : ℕ). decimal (n + 1)) (sym long)))

pub first-at : (r : Reader) (rows : FieldRows) (e : ℕ × Record) → HasReadRows r rows → MayHaveEvent r → IsBank e.0 → HasNoBank r.found.items e.0 → IsRecord e.1 → AtLine r 0 e rows
first-at r rows e h m bank free ok = ⊎_elim
    (λ run. let s = in-run h run in at [] s.0 s.1 (omega arith))
    (λ events. let s = subst (λ (n : NextRow). StandsNext n r.last (cycles_read r) r.found.items rows) events h.stands in
    at s.0 s.1 s.2 (few-events r rows s.0 [] h (s.1 ∙ sym (append-nil (map found_event s.0)))))
    m.0
  where
    at : {a c : Bool} (es : List (ℕ × Record)) → r.found.items ≡ map found_event es → IsBetween a c true (cycles_read r) es [] rows → length es + 1 < 2 ^ 64 → AtLine r 0 e rows
    at es found b few =
        let event : IsNextEvent (map found_event es) e = record { bank = bank; alone = subst (λ (x : List Found). HasNoBank x e.0) found free; record_bounds = ok } in
        record { read = h; events = es; found = found; inside = first-line es e b few event (omega (arith, h.count, m.1)) }

-- as many events as banks were found
pub line-long : {r : Reader} {k : ℕ} {e : ℕ × Record} {rows : FieldRows} (a : AtLine r k e rows) → length r.found.items ≡ length a.events
line-long a = ap length a.found ∙ length-map a.events found_event

-- what an exit by `ok_or(..)?` says
pub or-err : {A B : Type 0} (o : Option A) (e x : B) → Err x ≡ ok_or o e → o ≡ None → x ≡ e
or-err None e x is n = cc
or-err (Some y) e x is n = cc

-- a reader that took a row after such rows took it after others that are such
pub takes-from : {A B : FieldRows → Type 0} (new : Reader) (row : List (List ℕ)) (res : Result Unit Refused) → TakesRow A new row res → ((rows : FieldRows) → B rows → A rows) → TakesRow B new row res
takes-from new row (Ok u) t a = λ rows h. t rows (a rows h)
takes-from new row (Err x) t a = λ rows h. t rows (a rows h)

-- a line is read
module _ (r : Reader) (k : ℕ) (e : ℕ × Record) (b w v : List ℕ) (row-is : b ≡ decimal (length r.found.items + 1)) (named : w ≡ get_or event_names k [])
    (p : PartEvent) (t : AcceptsPlace k (length r.found.items + 1) r.found.items v e (event_of p)) (rows : FieldRows) (a : AtLine r k e rows) where
  at : b ≡ decimal (length a.events + 1)
  at = row-is ∙ ap (λ (n : ℕ). decimal (n + 1)) (line-long a)

  here : AcceptsPlace k (length a.events + 1) (map found_event a.events) v e (event_of p)
  here = subst (λ (x : List Found). AcceptsPlace k (length a.events + 1) x v e (event_of p)) a.found (subst (λ (j : ℕ). AcceptsPlace k (j + 1) r.found.items v e (event_of p)) (line-long a) t)

  long : length (rows ++ (b ∷ w ∷ v ∷ []) ∷ []) ≡ length rows + 1
  long = length-append rows ((b ∷ w ∷ v ∷ []) ∷ [])

  -- another one follows
  pub line-goes : k + 1 < 29 → HasReadRows (record r { next = next.Line (k + 1) p; rows = r.rows + 1 }) (rows ++ (b ∷ w ∷ v ∷ []) ∷ [])
  line-goes less =
      let n = line-next a.inside b w v at named (event_of p) here less in
      read-on _ a.read refl (omega arith) (omega arith) (omega (arith, n.0.short, less, long)) a.read.first (a.events, a.found, n.0, n.1)

  -- it was the last one
  pub line-ends : (s : Reader) → 29 ≤ k + 1 → s.found.items ≡ r.found.items ++ found_event (event_of p) ∷ [] → HasReadRows (record r { found = s.found; next = next.Events; rows = r.rows + 1 }) (rows ++ (b ∷ w ∷ v ∷ []) ∷ [])
  line-ends s more is =
      let n = line-last a.inside b w v at named (event_of p) here (omega (arith, a.inside.within, more)) in
      read-on _ a.read refl (omega (arith, ap length is, length-append r.found.items (found_event (event_of p) ∷ []))) (omega arith) (omega (arith, n.short, long)) a.read.first
      (a.events ++ event_of p ∷ [], is ∙ ap (λ (x : List Found). x ++ found_event (event_of p) ∷ []) a.found ∙ sym (found-last a.events (event_of p)), n)
