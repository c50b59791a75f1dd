-- The rows and the lines of an event, and how a reader in one takes them or refuses them.
use Rattle.std.proofs.{lemmas.List.FromFn.fill_by_all, Math.Seq.{take-append-add, take-length}}
use Rattle.std.proofs.Common.{arith, ◌≡◌, ◌∙◌, sym, ap, refl, ℕ, zero, suc, ◌+◌, ◌<◌, Bool, List, [], ◌∷◌, ◌++◌, length, map, take, drop, get_or, decimal, Option, None, Some, subst, ◌-◌, ◌≤◌, false, set, ◌≢◌, ap₂, ◌^◌, ⊎_elim, ◌⊎◌, inl, inr, true, eqb, append_assoc, length-append}
use Rattle.std.proofs.lemmas.List.{take_more, length-map, take-append-le, take-map, take-set, append-nil, drop_more, take-append-drop, length-drop}
use Rattle.std.specs.{Option.{IfSome, option_map_or}, List.{IsDistinct, slice_index_or}}
use Rattle.edr_record.specs.{declared.Record.Record, Bounds.IsCrash, Complete.{is_complete, misses_no_tick}}
use Rattle.edr_record.specs.Parts.{PrePart, CrashPart}
use Rattle.edr_report.specs.{EventWords.{event_words, place_of}, Report.{event_line, event_lines}, Words.{yes_no, firing_words, none_word}}
use Rattle.edr_report.specs.declared.event_lines.EventLine.{EventLine, TheVariants.{Number, Before, After}}
use Rattle.edr_report.specs.declared.event_lines.{TheConstants.LINES_OF_EVENT, PreLine.PreLine, CrashLine.CrashLine}
use Rattle.edr_report.specs.declared.event_lines.Restraint.{Restraint}
use Rattle.edr_report.specs.declared.event_lines.PreLine.TheVariants as pre
use Rattle.edr_report.specs.declared.event_lines.CrashLine.TheVariants as crash
use Rattle.edr_report.specs.declared.event_lines.Restraint.TheVariants as restraint
use Rattle.edr_reading.specs.declared.event.PartEvent.{PartEvent}
use Rattle.edr_reading.specs.Reading.{event_place, event_texts, EventAgrees, first_texts, pre_texts, PartsAgree, PreAgrees, crash_place, crash_texts, pre_place, AcceptsLine, AcceptsEventLine, AcceptsPartLine, part_words, IsNextEvent, event_of, FieldRows, Texts, HasNoBank, event_fields, line_fields, AreReport, ReportGoesOn, IsDamaged, IsEvent, banks_in, count_fields, IsRecord, AreDistinct}
use Rattle.edr_reading.specs.Reader.{GoesOnIn, IsBetween, IsInside, IsRefused, IsToldReport, MayFollowLine, whole}
use Rattle.edr_reading.specs.declared.reader.Refused.TheVariants as refused
use Rattle.edr_image.specs.{declared.Found.Found, Banks.found_event, Reports.Report}
use Rattle.edr_reading.proofs.BetweenLemmas.{banks-more, All-last, refuse-2, refuse-3, next-row, none, some-rows}
use Rattle.edr_reading.proofs.SlotLemmas.{end-none}
use Rattle.edr_reading.proofs.WholeLemmas.{alone, distinct-more, decimal-same, told-report, whole-event}

-- ---- the rows of an event, by the names and values of its lines

-- the names of its lines
abbrev pub event_names : Texts
event_names = map (λ l. l.0.now) LINES_OF_EVENT

-- rows of a block with these names and values
abbrev pub block_fields : List ℕ → Texts → Texts → FieldRows
block_fields block [] values = []
block_fields block (n ∷ names) [] = []
block_fields block (n ∷ names) (v ∷ values) = (block ∷ n ∷ v ∷ []) ∷ block_fields block names values

-- eight times, each read by its place, are the list of them
firings : (c : CrashPart) → IsCrash c → firing_words (get_or c.fired 0 None) ∷ firing_words (get_or c.fired 1 None) ∷ firing_words (get_or c.fired 2 None) ∷ firing_words (get_or c.fired 3 None) ∷ firing_words (get_or c.fired 4 None) ∷ firing_words (get_or c.fired 5 None) ∷ firing_words (get_or c.fired 6 None) ∷ firing_words (get_or c.fired 7 None) ∷ [] ≡ map firing_words c.fired
firings c h = ap (map firing_words) (sym (fill_by_all (λ (k : ℕ). get_or c.fired k None) c.fired 8 None h.restraints (λ k within. refl)))

event-named : (b bank : ℕ) (r : Record) → IsRecord r → event_fields b bank r ≡ block_fields (decimal b) event_names (event_texts b (bank, r))
unfolding event_lines
event-named b bank r h = by r.pre r.locked r.crash h.crash
  where
    by : (p : PrePart) (l : Bool) (o : Option CrashPart) → IfSome o IsCrash → let s : Record = record { pre = p; locked = l; crash = o } in event_fields b bank s ≡ block_fields (decimal b) event_names (event_texts b (bank, s))
    by p l None k = refl
    by p l (Some c) k =
        let s : Record = record { pre = p; locked = l; crash = Some c } in
        ap (λ (x : Texts). block_fields (decimal b) event_names (decimal b ∷ decimal bank ∷ (pre_texts p l ++ ((first_texts c ++ x) ++ yes_no (is_complete s) ∷ [])))) (firings c k)

pub event-long : (b bank : ℕ) (r : Record) → length (event_fields b bank r) ≡ 29
unfolding event_lines
event-long b bank r = refl

pub event-gone : (b bank : ℕ) (r : Record) → drop 29 (event_fields b bank r) ≡ []
unfolding event_lines
event-gone b bank r = refl

pub no-rows : {X : Type 0} (xs : List X) → take 0 xs ≡ []
no-rows [] = refl
no-rows (x ∷ xs) = refl

take-block : (b : List ℕ) (k : ℕ) (ns vs : Texts) → take k (block_fields b ns vs) ≡ block_fields b (take k ns) (take k vs)
take-block b zero ns vs = no-rows (block_fields b ns vs) ∙ sym (ap (λ (x : Texts). block_fields b x (take 0 vs)) (no-rows ns))
take-block b (suc k) [] vs = refl
take-block b (suc k) (n ∷ ns) [] = refl
take-block b (suc k) (n ∷ ns) (v ∷ vs) = ap (λ (x : FieldRows). (b ∷ n ∷ v ∷ []) ∷ x) (take-block b k ns vs)

-- where an event shows one line more, and the lines before it as another did, its row is added to theirs
pub rows-more : (b k : ℕ) (e f : ℕ × Record) → k < 29 → IsRecord e.1 → IsRecord f.1 → take k (event_texts b f) ≡ take k (event_texts b e)
    → take (k + 1) (event_fields b f.0 f.1) ≡ take k (event_fields b e.0 e.1) ++ get_or (event_fields b f.0 f.1) k [] ∷ []
rows-more b k e f small he hf same =
    take_more (event_fields b f.0 f.1) k [] (let l = event-long b f.0 f.1 in omega (arith, l, small))
    ∙ ap (λ (x : FieldRows). x ++ get_or (event_fields b f.0 f.1) k [] ∷ [])
    (ap (take k) (event-named b f.0 f.1 hf) ∙ take-block (decimal b) k event_names (event_texts b f) ∙ ap (block_fields (decimal b) (take k event_names)) same
    ∙ sym (ap (take k) (event-named b e.0 e.1 he) ∙ take-block (decimal b) k event_names (event_texts b e)))

abbrev Below : ℕ → (ℕ → Type 0) → Type 0
Below zero P = Unit {0}
Below (suc n) P = P 0 × Below n (λ k. P (suc k))

below-at : (n : ℕ) (P : ℕ → Type 0) → Below n P → (k : ℕ) → k < n → P k
below-at zero P h k l = absurd (omega (arith, l))
below-at (suc n) P h zero l = h.0
below-at (suc n) P h (suc k) l = below-at n (λ j. P (suc j)) h.1 k (omega (arith, l))

-- the lines of an event, in their order
abbrev pub lines : List EventLine
lines = map (λ l. l.1) LINES_OF_EVENT

-- a line's place is its place among them
pub line-place : (k : ℕ) → k < 29 → event_place (get_or lines k Number) ≡ k
line-place k h = below-at 29 (λ j. event_place (get_or lines j Number) ≡ j) (refl, (refl, (refl, (refl, (refl, (refl, (refl, (refl, (refl, (refl, (refl, (refl, (refl, (refl, (refl, (refl, (refl, (refl, (refl, (refl, (refl, (refl, (refl, (refl, (refl, (refl, (refl, (refl, (refl, tt))))))))))))))))))))))))))))) k h

-- the row of a line
pub row-at : (b : ℕ) (e : ℕ × Record) (k : ℕ) → k < 29 → get_or (event_fields b e.0 e.1) k [] ≡ decimal b ∷ get_or event_names k [] ∷ event_words b e.0 e.1 (get_or lines k Number) ∷ []
unfolding event_lines
row-at b e k small = by (λ l. l.0.now) (λ l. l.1) LINES_OF_EVENT k small
  where
    by : {X : Type 0} (name : X → List ℕ) (what : X → EventLine) (ls : List X) (j : ℕ) → j < length ls
        → get_or (map line_fields (map (λ l. event_line b e.0 e.1 (name l) (what l)) ls)) j [] ≡ decimal b ∷ get_or (map name ls) j [] ∷ event_words b e.0 e.1 (get_or (map what ls) j Number) ∷ []
    by name what [] j h = absurd (omega (arith, h))
    by name what (l ∷ ls) zero h = refl
    by name what (l ∷ ls) (suc j) h = by name what ls j (omega (arith, h))

-- ---- the lines of an event

-- the same texts before others
pub front-before : (front xs ys : List (List ℕ)) (k : ℕ) → take k xs ≡ take k ys → take (length front + k) (front ++ xs) ≡ take (length front + k) (front ++ ys)
front-before front xs ys k same = take-append-add front xs k ∙ ap (λ (zs : List (List ℕ)). front ++ zs) same ∙ sym (take-append-add front ys k)

pub set-before : {X : Type 0} (f : X → List ℕ) (xs : List X) (k : ℕ) (x : X) → take k (map f (set xs k x)) ≡ take k (map f xs)
set-before f xs k x = take-map f k (set xs k x) ∙ ap (map f) (take-set xs k x) ∙ sym (take-map f k xs)

pre-most : (l : PreLine) → pre_place l ≤ 10
pre-most pre.Cycle = omega arith
pre-most l = omega arith

restraint-most : (r : Restraint) → place_of r ≤ 7
restraint-most restraint.DriverFrontal = omega arith
restraint-most r = omega arith

crash-most : (l : CrashLine) → crash_place l ≤ 14
crash-most (crash.Fired r) = let m = restraint-most r in omega (arith, m)
crash-most l = omega arith

pre-agrees : (j k : ℕ) (p q : PrePart) → 11 ≤ j → PreAgrees j p q → PreAgrees k p q
pre-agrees j k p q h a = record {
  events = λ l. a.events (omega (arith, h));
  profile = λ l. a.profile (omega (arith, h));
  speed = λ l. a.speed (omega (arith, h));
  throttle = λ l. a.throttle (omega (arith, h));
  brake = λ l. a.brake (omega (arith, h));
  belt = λ l. a.belt (omega (arith, h));
  lamp = λ l. a.lamp (omega (arith, h));
}

pub before-here : (l : PreLine) (p q : PrePart) → PreAgrees (event_place (Before l) - 2) p q → PreAgrees (pre_place l) p q
before-here l p q a = let here : 2 + pre_place l - 2 ≡ pre_place l = omega arith in subst (λ (k : ℕ). PreAgrees k p q) here a

-- one line of what stood before time zero more
pub before-agrees : (l : PreLine) (bank : ℕ) (p q : PrePart) (is_locked now_locked : Bool) (c : Option CrashPart) (f : ℕ × Record) → EventAgrees (event_place (Before l)) (bank, record { pre = p; locked = is_locked; crash = c }) f
    → (PreAgrees (pre_place l) p f.1.pre → PreAgrees (pre_place l + 1) q f.1.pre) → EventAgrees (event_place (Before l) + 1) (bank, record { pre = q; locked = now_locked; crash = c }) f
before-agrees l bank p q is_locked now_locked c f a step =
    let most = pre-most l in
    let next : pre_place l + 1 ≡ 2 + pre_place l + 1 - 2 = omega arith in
    let none : 2 + pre_place l - 13 ≡ 2 + pre_place l + 1 - 13 = omega (arith, most) in
    record {
      bank = λ h. a.bank (omega arith);
      before = subst (λ (k : ℕ). PreAgrees k q f.1.pre) next (step (before-here l p f.1.pre a.before));
      after = subst (λ (k : ℕ). PartsAgree k c f.1.crash) none a.after;
    }

-- one line of what came after it more
pub after-agrees : (l : CrashLine) (bank : ℕ) (p : PrePart) (is_locked : Bool) (c d : Option CrashPart) (f : ℕ × Record) → EventAgrees (event_place (After l)) (bank, record { pre = p; locked = is_locked; crash = c }) f
    → (PartsAgree (crash_place l) c f.1.crash → PartsAgree (crash_place l + 1) d f.1.crash) → EventAgrees (event_place (After l) + 1) (bank, record { pre = p; locked = is_locked; crash = d }) f
after-agrees l bank p is_locked c d f a step =
    let here : 13 + crash_place l - 13 ≡ crash_place l = omega arith in
    let next : crash_place l + 1 ≡ 13 + crash_place l + 1 - 13 = omega arith in
    record {
      bank = λ h. a.bank (omega arith);
      before = pre-agrees (13 + crash_place l - 2) (13 + crash_place l + 1 - 2) p f.1.pre (omega arith) a.before;
      after = subst (λ (k : ℕ). PartsAgree k d f.1.crash) next (step (subst (λ (k : ℕ). PartsAgree k c f.1.crash) here a.after));
    }

pub crash-long : (c : Option CrashPart) → IfSome c IsCrash → length (crash_texts c) ≡ 15
crash-long None h = refl
crash-long (Some c) h = let m = length-map c.fired firing_words in omega (arith, m, h.restraints)

-- the lines before it are as they were
pub after-earlier : (l : CrashLine) (block bank : ℕ) (p : PrePart) (is_locked : Bool) (c d : Option CrashPart) → IfSome c IsCrash → IfSome d IsCrash → take (crash_place l) (crash_texts d) ≡ take (crash_place l) (crash_texts c)
    → take (event_place (After l)) (event_texts block (bank, record { pre = p; locked = is_locked; crash = d })) ≡ take (event_place (After l)) (event_texts block (bank, record { pre = p; locked = is_locked; crash = c }))
after-earlier l block bank p is_locked c d hc hd same =
    let most = crash-most l in
    let last : Option CrashPart → List (List ℕ) = λ o. yes_no (is_complete (record { pre = p; locked = is_locked; crash = o })) ∷ [] in
    let c-long = crash-long c hc in
    let d-long = crash-long d hd in
    let fc : take (crash_place l) (crash_texts c ++ last c) ≡ take (crash_place l) (crash_texts c) = take-append-le (crash_place l) (crash_texts c) (last c) (omega (arith, most, c-long)) in
    let fd : take (crash_place l) (crash_texts d ++ last d) ≡ take (crash_place l) (crash_texts d) = take-append-le (crash_place l) (crash_texts d) (last d) (omega (arith, most, d-long)) in
    front-before (decimal block ∷ decimal bank ∷ pre_texts p is_locked) (crash_texts d ++ last d) (crash_texts c ++ last c) (crash_place l) (fd ∙ same ∙ sym fc)

none-follows : (l : CrashLine) (f : Option CrashPart) → IfSome f IsCrash → PartsAgree (crash_place l) None f → none_word ≡ part_words f l → PartsAgree (crash_place l + 1) None f
none-follows l None ok a s = tt
none-follows crash.End (Some d) ok a s = absurd (end-none d.end (omega (arith, ok.end_to)) s)
none-follows l (Some d) ok a s = absurd (omega (arith, a))

end-follows : (f : Option CrashPart) → IfSome f IsCrash → none_word ≡ part_words f crash.End → PartsAgree 1 None f
end-follows None ok s = tt
end-follows (Some d) ok s = absurd (end-none d.end (omega (arith, ok.end_to)) s)

-- where nothing came after time zero, each line says so
pub none-line : (l : CrashLine) (c : Option CrashPart) (value : List ℕ) → (l ≡ crash.End) ⊎ (c ≡ None) → value ≡ none_word → AcceptsPartLine l value c (Some None)
none-line l c value (inl e) is = rw e (record { bounds = tt; shows = is; earlier = sym (no-rows (crash_texts c)); whole = λ f ok a s. end-follows f ok (sym is ∙ s) })
none-line l c value (inr e) is = rw e (record { bounds = tt; shows = is; earlier = refl; whole = λ f ok a s. none-follows l f ok a (sym is ∙ s) })

ticks-same : (c d : Option CrashPart) → PartsAgree 15 c d → option_map_or misses_no_tick c false ≡ option_map_or misses_no_tick d false
ticks-same None None a = refl
ticks-same None (Some d) a = absurd (omega (arith, a))
ticks-same (Some c) None a = absurd (omega (arith, a))
ticks-same (Some c) (Some d) a = rw (a.missing_along (omega arith), a.missing_across (omega arith)) refl

-- what all lines before the last one fix tells whether the record is complete
pub complete-same : (e f : ℕ × Record) → EventAgrees 28 e f → is_complete e.1 ≡ is_complete f.1
unfolding is_complete
complete-same e f a =
    let b = a.before in
    rw (b.speed (omega arith), b.throttle (omega arith), b.brake (omega arith), b.belt (omega arith), b.lamp (omega arith), ticks-same e.1.crash f.1.crash a.after) refl

-- ---- what a line may be

-- no bank that was told is that of the event
pub line-alone : {k block : ℕ} (found : List Found) {e : ℕ × Record} {more : FieldRows} (m : MayFollowLine k block (banks_in found) e more) → HasNoBank found m.event.0
line-alone found m = let f = m.follow 0 in alone found m.event.0 _ (subst (IsDistinct eqb) (append_assoc (banks_in found) (m.event.0 ∷ []) _) f.distinct)

-- the next row is a line of an event, which goes on after it
pub line-row : {k block : ℕ} (found : List Found) {e : ℕ × Record} {r : List (List ℕ)} {more : FieldRows} → k < 29 → MayFollowLine k block (banks_in found) e (r ∷ more)
    → (f : ℕ × Record) × IsNextEvent found f × EventAgrees k e f × (r ≡ decimal block ∷ get_or event_names k [] ∷ event_words block f.0 f.1 (get_or lines k Number) ∷ [])
    × ((g : ℕ × Record) → EventAgrees (k + 1) g f → MayFollowLine (k + 1) block (banks_in found) g more)
line-row {k} {block} found {e} {r} {more} small m =
    let f = m.event in
    let rows = event_fields block f.0 f.1 in
    let long = event-long block f.0 f.1 in
    let is : r ∷ more ≡ get_or rows k [] ∷ (drop (k + 1) rows ++ m.after) = m.are ∙ ap (λ (x : FieldRows). x ++ m.after) (drop_more rows k [] (omega (arith, small, long))) in
    let head : r ≡ get_or rows k [] = cc in
    let rest : more ≡ drop (k + 1) rows ++ m.after = cc in (
      f,
      record { bank = m.bounds.0; alone = line-alone found m; record_bounds = m.bounds.1 },
      m.agrees,
      head ∙ row-at block f k small,
      (λ g a. record { event = f; bounds = m.bounds; agrees = a; after = m.after; follow = m.follow; are = rest }),
    )

-- how many rows follow at least
pub line-most : {k block : ℕ} {banks : List ℕ} {e : ℕ × Record} {more : FieldRows} → MayFollowLine k block banks e more → 30 ≤ length more + k
line-most {k} {block} m =
    let rows = event_fields block m.event.0 m.event.1 in
    omega (arith, ap length m.are, length-drop k rows, length-append (drop k rows) m.after, some-rows (m.follow 0), event-long block m.event.0 m.event.1)

-- one event more
told-event : {reports : List Report} (es : List (ℕ × Record)) (f : ℕ × Record) → IsToldReport reports es [] → IsNextEvent (map found_event es) f → IsToldReport reports (es ++ f ∷ []) []
told-event es f h n = record {
  run = h.run;
  events = All-last IsEvent es f h.events (n.bank, n.record_bounds);
  damaged = none IsDamaged;
  distinct = subst AreDistinct (sym (append-nil (map found_event (es ++ f ∷ []))))
      (subst (IsDistinct eqb) (sym (banks-more es f)) (distinct-more (map found_event es) f.0 (subst AreDistinct (append-nil (map found_event es)) h.distinct) n.alone));
}

-- the line in place k of an event in this block is taken: with this value it makes f of the event e
abbrev pub AcceptsPlace : ℕ → ℕ → List Found → List ℕ → ℕ × Record → ℕ × Record → Type 0
AcceptsPlace k block found v e f = AcceptsLine {A = ℕ × Record} {B = ℕ × Record} (λ x. x) (IsNextEvent found) (event_texts block) EventAgrees (λ x. event_words block x.0 x.1 (get_or lines k Number)) k v e (Some f)

pub at-place : (k block : ℕ) (found : List Found) (v : List ℕ) (old new : PartEvent) → k < 29 → AcceptsEventLine block found (get_or lines k Number) v old (Some new) → AcceptsPlace k block found v (event_of old) (event_of new)
at-place k block found v old new small t =
    let at = line-place k small in
    record {
      bounds = t.bounds;
      shows = t.shows;
      earlier = subst (λ (j : ℕ). take j (event_texts block (event_of new)) ≡ take j (event_texts block (event_of old))) at t.earlier;
      whole = λ f ok a e. subst (λ (j : ℕ). EventAgrees (j + 1) (event_of new) f) at (t.whole f ok (subst (λ (j : ℕ). EventAgrees j (event_of old) f) (sym at) a) e);
    }

-- ---- in an event

module _ {k : ℕ} {e : ℕ × Record} {reports : List Report} {es : List (ℕ × Record)} {rows : FieldRows} (h : IsInside k e reports es rows) where
  -- the rows so far begin a report
  pub inside-count : AreReport (rows ++ (decimal (length es + 1) ∷ get_or event_names k [] ∷ event_words (length es + 1) e.0 e.1 (get_or lines k Number) ∷ []) ∷ (drop (k + 1) (event_fields (length es + 1) e.0 e.1) ++ count_fields 0 ∷ []))
  inside-count =
      let block = length es + 1 in
      let all = event_fields block e.0 e.1 in
      let long = event-long block e.0 e.1 in
      let one = decimal block ∷ get_or event_names k [] ∷ event_words block e.0 e.1 (get_or lines k Number) ∷ [] in
      let parted : all ≡ take k all ++ one ∷ drop (k + 1) all = sym (take-append-drop k all) ∙ ap (λ (x : FieldRows). take k all ++ x) (drop_more all k [] (omega (arith, h.within, long)) ∙ ap (λ (r : List (List ℕ)). r ∷ drop (k + 1) all) (row-at block e k h.within)) in
      let total : whole reports (es ++ e ∷ []) [] ≡ rows ++ one ∷ drop (k + 1) all = whole-event reports es e ∙ ap (λ (x : FieldRows). whole reports es [] ++ x) parted ∙ sym (append_assoc (whole reports es []) (take k all) (one ∷ drop (k + 1) all)) ∙ ap (λ (x : FieldRows). x ++ one ∷ drop (k + 1) all) (sym h.are) in
      let e1 = length-append rows (one ∷ drop (k + 1) all) in
      let e2 = length-drop (k + 1) all in
      subst AreReport (ap (λ (x : FieldRows). x ++ count_fields 0 ∷ []) total ∙ append_assoc rows (one ∷ drop (k + 1) all) (count_fields 0 ∷ []))
      (told-report reports (es ++ e ∷ []) [] 0 (told-event es e h.told h.event) (omega (arith, h.short, h.within, ap length total, e1, e2, long)))

  module _ (b w v : List ℕ) (at : b ≡ decimal (length es + 1)) where
    -- another name is refused
    pub line-name : w ≢ get_or event_names k [] → IsRefused rows (b ∷ w ∷ v ∷ []) (refused.Field 2)
    line-name other = refuse-2 rows b w v (subst (ReportGoesOn rows) (ap (λ (x : List ℕ). x ∷ []) (sym at)) (_, _, inside-count))
        (λ r. other (ap (λ (x : List (List ℕ)). slice_index_or x 1 []) (line-row (map found_event es) h.within (h.rest (b ∷ w ∷ r.0) r.1 at r.2)).3))

    module _ (named : w ≡ get_or event_names k []) where
      -- a value that no event shows is
      pub line-value : ((f : ℕ × Record) → IsNextEvent (map found_event es) f → EventAgrees k e f → v ≡ event_words (length es + 1) f.0 f.1 (get_or lines k Number) → ⊥) → IsRefused rows (b ∷ w ∷ v ∷ []) (refused.Field 3)
      line-value never = refuse-3 rows b w v (subst (ReportGoesOn rows) (ap₂ (λ (x y : List ℕ). x ∷ y ∷ []) (sym at) (sym named)) (_, _, inside-count))
          (λ r. let l = line-row (map found_event es) h.within (h.rest (b ∷ w ∷ v ∷ r.0) r.1 at r.2) in never l.0 l.1 l.2 (ap (λ (x : List (List ℕ)). slice_index_or x 2 []) l.3))

      module _ (f : ℕ × Record) (t : AcceptsPlace k (length es + 1) (map found_event es) v e f) where
        line-are : rows ++ (b ∷ w ∷ v ∷ []) ∷ [] ≡ whole reports es [] ++ take (k + 1) (event_fields (length es + 1) f.0 f.1)
        line-are =
            let block = length es + 1 in
            let r = row-at block f k h.within in
            let shows = t.shows in
            let one : b ∷ w ∷ v ∷ [] ≡ get_or (event_fields block f.0 f.1) k [] = cc in
            ap₂ (λ (x : FieldRows) (r : List (List ℕ)). x ++ r ∷ []) h.are one
            ∙ append_assoc (whole reports es []) (take k (event_fields block e.0 e.1)) (get_or (event_fields block f.0 f.1) k [] ∷ [])
            ∙ ap (λ (x : FieldRows). whole reports es [] ++ x) (sym (rows-more block k e f h.within h.event.record_bounds t.bounds.record_bounds t.earlier))

        line-follow : (more : FieldRows) → AreReport ((rows ++ (b ∷ w ∷ v ∷ []) ∷ []) ++ more) → MayFollowLine (k + 1) (length es + 1) (banks_in (map found_event es)) f more
        line-follow more a =
            let l = line-row (map found_event es) h.within (h.rest (b ∷ w ∷ v ∷ []) more at (subst AreReport (append_assoc rows ((b ∷ w ∷ v ∷ []) ∷ []) more) a)) in
            l.4 f (t.whole l.0 l.1 l.2 (ap (λ (x : List (List ℕ)). slice_index_or x 2 []) l.3))

        pub line-next : k + 1 < 29 → IsInside (k + 1) f reports es (rows ++ (b ∷ w ∷ v ∷ []) ∷ []) × GoesOnIn (length es + 1) (rows ++ (b ∷ w ∷ v ∷ []) ∷ [])
        line-next small =
            let now = rows ++ (b ∷ w ∷ v ∷ []) ∷ [] in
            let long = length-append rows ((b ∷ w ∷ v ∷ []) ∷ []) in (
              record { within = small; told = h.told; event = t.bounds; are = line-are; short = omega (arith, h.short, long); rest = λ r more b a. line-follow (r ∷ more) a },
              (
                (λ a. let s = line-most (line-follow [] (subst AreReport (sym (append-nil now)) a)) in omega (arith, s, small)),
                (λ r more a. ap (λ (x : List (List ℕ)). slice_index_or x 0 []) (line-row (map found_event es) small (line-follow (r ∷ more) a)).3),
              ),
            )

        pub line-last : k + 1 ≡ 29 → IsBetween false false true reports (es ++ f ∷ []) [] (rows ++ (b ∷ w ∷ v ∷ []) ∷ [])
        line-last last =
            let block = length es + 1 in
            let all = event_fields block f.0 f.1 in
            let long = length-append rows ((b ∷ w ∷ v ∷ []) ∷ []) in
            let count : length es + 1 + 1 ≡ length (es ++ f ∷ []) + 1 = ap (λ (n : ℕ). n + 1) (sym (length-append es (f ∷ []))) in
            let banks : banks_in (map found_event es) ++ f.0 ∷ [] ≡ banks_in (map found_event (es ++ f ∷ []) ++ []) = sym (ap banks_in (append-nil (map found_event (es ++ f ∷ []))) ∙ banks-more es f) in
            record {
              told = told-event es f h.told t.bounds;
              are = line-are ∙ ap (λ (n : ℕ). whole reports es [] ++ take n all) (last ∙ sym (event-long block f.0 f.1)) ∙ ap (λ (x : FieldRows). whole reports es [] ++ x) (take-length all) ∙ sym (whole-event reports es f);
              short = omega (arith, h.short, long, last);
              rest = λ more a.
                  let m = line-follow more a in
                  let g = m.event in
                  let rest : more ≡ m.after = m.are ∙ ap (λ (n : ℕ). drop n (event_fields block g.0 g.1) ++ m.after) last ∙ ap (λ (x : FieldRows). x ++ m.after) (event-gone block g.0 g.1) in
                  let bank : g.0 ≡ f.0 = sym (m.agrees.bank (omega (arith, last))) in
                  let told = ap (λ (b : ℕ). banks_in (map found_event es) ++ b ∷ []) bank ∙ banks in
                  rw (rest, sym count, sym told) (m.follow (length reports));
            }

-- ---- the first line

pub first-line : {a c : Bool} {reports : List Report} (es : List (ℕ × Record)) {rows : FieldRows} (e : ℕ × Record) → IsBetween a c true reports es [] rows → length es + 1 < 2 ^ 64 → IsNextEvent (map found_event es) e → length rows + 30 ≤ 4_294_967_294
    → IsInside 0 e reports es rows
first-line {reports = reports} es e h few bounds room = record {
  within = omega arith;
  told = h.told;
  event = bounds;
  are = h.are ∙ sym (ap (λ (x : FieldRows). whole reports es [] ++ x) (no-rows (event_fields (length es + 1) e.0 e.1)) ∙ append-nil (whole reports es []));
  short = omega (arith, room);
  rest = λ r more b rep. ⊎_elim
      (λ l. absurd (let z = decimal-same 0 (length es + 1) (omega arith) few (sym (ap (λ (x : List (List ℕ)). slice_index_or x 0 []) l.3) ∙ b) in omega (arith, z)))
      (λ n. subst (λ (x : List Found). MayFollowLine 0 (length es + 1) (banks_in x) e (r ∷ more)) (append-nil (map found_event es)) (n.3 e))
      (next-row r more (h.rest (r ∷ more) rep));
}
