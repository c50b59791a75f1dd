-- Rows with what is read of them, computed.
use Rattle.std.proofs.Common.{◌≡◌, refl, [], ◌∷◌, Some, None, Ok, Err, pos, negsuc, codes}
use Rattle.edr_items.specs.declared.Sensor.TheVariants as s
use Rattle.edr_items.specs.SensorLists.{lagging_of}
use Rattle.edr_spell.specs.declared.Row.TheVariants as row
use Rattle.edr_spell.specs.declared.TraceFault.TheVariants as f
use Rattle.edr_spell.specs.Rows.{row_of, row_by, word_of}
use Rattle.edr_spell.specs.Samples.{feeds_given}
use Rattle.edr_spell.specs.Fault.{fault_in, item_fault, feeds_after, open_after, fault_at_end}
use Rattle.edr_spell.specs.Lines.{text_of}
use Rattle.edr_text.specs.Numbers.{natural_in, integer_in}

value : row_of (codes "along" ∷ codes "7" ∷ codes "-5" ∷ []) ≡ Ok (row.Sample s.Along (record { moment = 7; value = Some (negsuc 4) }))
unfolding row_of row_by word_of natural_in integer_in
value = refl

silent : row_of (codes "restraint" ∷ codes "1000" ∷ [] ∷ []) ≡ Ok (row.Sample s.Restraint (record { moment = 1000; value = None }))
unfolding row_of row_by word_of natural_in
silent = refl

start : row_of (codes "on" ∷ codes "6" ∷ [] ∷ []) ≡ Ok (row.On 6)
unfolding row_of row_by word_of natural_in
start = refl

seven : row_of (codes "on" ∷ codes "7" ∷ codes "x" ∷ []) ≡ Err (f.Number 2)
unfolding row_of row_by word_of natural_in
seven = refl

leading : row_of (codes "along" ∷ codes "01" ∷ codes "0" ∷ []) ≡ Err (f.Number 2)
unfolding row_of row_by word_of natural_in
leading = refl

minus : row_of (codes "along" ∷ codes "1" ∷ codes "-0" ∷ []) ≡ Err (f.Number 3)
unfolding row_of row_by word_of natural_in integer_in
minus = refl

horn : row_of (codes "horn" ∷ codes "1" ∷ codes "2" ∷ []) ≡ Err f.Word
unfolding row_of row_by word_of
horn = refl

two : row_of (codes "on" ∷ codes "0" ∷ []) ≡ Err (f.Fields 2)
unfolding row_of
two = refl

-- a sensor that follows the moment 5
order : item_fault s.Along 5 (record { moment = 5; value = Some (pos 200000) }) ≡ Some (f.Order 5)
unfolding item_fault
order = refl

range : item_fault s.Along 5 (record { moment = 2000; value = Some (pos 100001) }) ≡ Some (f.Range (negsuc 99999) (pos 100000))
unfolding item_fault
range = refl

gap : item_fault s.Lamp 0 (record { moment = 1001; value = None }) ≡ Some (f.Gap 0)
unfolding item_fault
gap = refl

-- a cut where one sensor alone has gone on
skew : fault_in (feeds_after (row.On 0 ∷ row.Sample s.Along (record { moment = 1000; value = None }) ∷ row.Sample s.Along (record { moment = 1001; value = None }) ∷ [])) (row.Cut 0) ≡ Some (f.Skew s.Across)
unfolding fault_in open_after feeds_given lagging_of
skew = refl

-- a moment past the last one is told before a value out of range
moment : item_fault s.Along 5 (record { moment = 86400001; value = Some (pos 200000) }) ≡ Some (f.Moment 86400000)
unfolding item_fault
moment = refl

-- a row after a cycle that has ended
place : fault_in (feeds_after (row.On 0 ∷ row.Cut 0 ∷ [])) (row.Sample s.Along (record { moment = 1; value = None })) ≡ Some f.Place
unfolding fault_in open_after feeds_given
place = refl

-- a start that is stopped leaves no cycle open
stopped : fault_at_end (feeds_after (row.On 6 ∷ [])) ≡ None
unfolding open_after feeds_given
stopped = refl

unended : fault_at_end (feeds_after (row.On 6 ∷ row.On 0 ∷ [])) ≡ Some f.Unended
unfolding open_after feeds_given
unended = refl

-- three rows as they are written
text : text_of (row.On 0 ∷ row.Sample s.Lamp (record { moment = 25; value = Some (negsuc 0) }) ∷ row.Cut 10 ∷ []) ≡ codes "on,0,\nlamp,25,-1\ncut,10,\n"
text = refl
