-- What the program prints, how it ends, and why it prints no page.
use Rattle.std.specs.Prelude.{◌≡◌, ◌⊎◌, ◌≤◌, ℕ, if◌then◌else◌, List, [], ◌∷◌, ◌++◌, Option, Some, IfSome}
use Rattle.std.specs.Prelude.{length, bytes_eq, codes, decimal}
use Rattle.sha2.specs.Sha256.{sha256}
use Rattle.edr_device.specs.{Faults.{Rose}, Stream.{Appends}, Told.{Told}, Transfer.{AppendsPart, GivesTooMany}}
use Rattle.edr_device.specs.declared.stream.Sink as sink
use Rattle.edr_device.specs.declared.stream.Source as stream
use Rattle.edr_drawing.specs.{Page.{page_bytes}, declared.{Origin.{Origin}, TheConstants.{VERSION}}}
use Rattle.edr_image.specs.{Reports.{Report}, declared.Found.{Found}}
use Rattle.edr_reading.specs.{Reader.{IsRefusalOfRecords}, Reading.{IsReading, report_rows}}
use Rattle.edr_reading.specs.declared.reading.{RowFault.{RowFault, TheVariants.{Fields, Field, Unended}}, ReportRefused.TheVariants.{Fault}}
use Rattle.edr_spell.specs.Spell.{RecordsOf}
use Rattle.edr_picture.specs.declared.asked.{Asked.{Asked, TheVariants.{Page, Help, Version, Other}}, TheConstants.{HELP}}
use Rattle.edr_picture.specs.declared.faults.PageFault.{PageFault}
use Rattle.edr_picture.specs.declared.faults.PageFault.TheVariants as fault
use Rattle.edr_picture.specs.declared.faults.PageStatus.{PageStatus, TheVariants.{Done, Faulty, WriteFault}}

-- what one word alone asks for
abbrev pub asked_by : List ℕ → Asked
asked_by word =
    if bytes_eq word (codes "--help") then Help
    else if bytes_eq word (codes "--version") then Version
    else Other

-- the line that names the program and its version
abbrev pub version_line : List ℕ
version_line = codes "edr_picture " ++ VERSION.now ++ 10 ∷ []

-- what is wrong with a row of a report
abbrev pub row_words : RowFault → List ℕ
row_words (Fields n) = codes "fields " ++ decimal n
row_words (Field f) = codes "field " ++ decimal f
row_words Unended = codes "unended"

abbrev pub fault_words : PageFault → List ℕ
fault_words fault.Usage = codes "usage: edr_picture [--help|--version] < crash.csv > crash.html"
fault_words (fault.Report row f) = codes "report row " ++ decimal row ++ codes ": " ++ row_words f
fault_words fault.Read = codes "read fault"
fault_words fault.OutOfMemory = codes "out of memory"
fault_words fault.TooLong = codes "too long"

-- the line of a fault
abbrev pub fault_line : PageFault → List ℕ
fault_line f = codes "fault: " ++ fault_words f ++ 10 ∷ []

-- the exit status
abbrev pub number_of : PageStatus → ℕ
number_of Done = 0
number_of (Faulty fault.Usage) = 2
number_of (Faulty (fault.Report row f)) = 3
number_of (Faulty fault.Read) = 4
number_of WriteFault = 5
number_of (Faulty fault.OutOfMemory) = 9
number_of (Faulty fault.TooLong) = 10

-- the most bytes that a report may have
abbrev pub largest_report : ℕ
largest_report = 67_108_864

-- the bytes are a report, which tells this
pub record TellsReport (bytes : List ℕ) (run : List Report) (found : List Found) (count : ℕ) : Type 0 where
  pub within : length bytes ≤ largest_report
  pub reading : IsReading run found count
  pub rows : RecordsOf bytes (report_rows run found count)

-- the origin of a page: bytes that tell this count, with their number and their digest
abbrev pub origin_of : List ℕ → ℕ → Origin
origin_of bytes count = record { count = count; size = length bytes; digest = sha256 bytes }

-- the text is the page of what the bytes tell
abbrev pub IsPage : List ℕ → List ℕ → Type 0
IsPage bytes text =
    (run : List Report) × (found : List Found) × (count : ℕ) × TellsReport bytes run found count
    × (text ≡ page_bytes run found (origin_of bytes count))

-- what a source tells at one moment: the bytes that are left, if it tells them, and its count of faults
pub record PageInput : Type 0 where
  pub left : Option (List ℕ)
  pub faults : ℕ

-- a report was left before, of which this is so, and none of its bytes is left now
abbrev pub IsReadWhole : (List ℕ → Type 0) → PageInput → PageInput → Type 0
IsReadWhole is i i' = IfSome i.left is × IfSome i'.left (λ bytes. bytes ≡ [])

-- what is answered to what was asked: the page of the report that the source gave, or a text for which nothing is read
abbrev pub AnswerIs : Asked → PageInput → PageInput → List ℕ → Type 0
AnswerIs Page i i' text = IsReadWhole (λ bytes. IsPage bytes text) i i'
AnswerIs Help i i' text = (text ≡ HELP.now) × (i' ≡ i)
AnswerIs Version i i' text = (text ≡ version_line) × (i' ≡ i)
AnswerIs Other i i' text = ⊥

-- why there is none
abbrev pub IsCauseOfNone : Asked → PageInput → PageInput → PageFault → Type 0
IsCauseOfNone a i i' fault.Usage = (a ≡ Other) × (i' ≡ i)
IsCauseOfNone a i i' (fault.Report row f) = (a ≡ Page)
    × IsReadWhole (λ bytes. (length bytes ≤ largest_report) × IsRefusalOfRecords bytes (Fault row f)) i i'
IsCauseOfNone a i i' fault.Read = (a ≡ Page) × Rose i.faults i'.faults
IsCauseOfNone a i i' fault.OutOfMemory = a ≡ Page
IsCauseOfNone a i i' fault.TooLong = (a ≡ Page) × Told (GivesTooMany largest_report) i.left i'.left

-- ---- the same of a source and a sink, before a call and after it

-- of what the source tells
abbrev pub OnInput : {S : Type 0} {X : Type 1} → stream.Ghosts S → (PageInput → PageInput → X) → S → S → X
OnInput s says old new = says (record { left = s.left old; faults = s.faults old }) (record { left = s.left new; faults = s.faults new })

-- there is no answer to what was asked, for this cause
abbrev pub HasNone : {S : Type 0} → stream.Ghosts S → Asked → S → S → PageFault → Type 0
HasNone s a old new f = OnInput s (IsCauseOfNone a) old new f

-- the text is one that may be written for what the source gives: an answer, or the line of a fault that has its cause
abbrev pub IsTextFor : {S : Type 0} → stream.Ghosts S → Asked → S → S → List ℕ → Type 0
IsTextFor s a old new text = OnInput s (AnswerIs a) old new text ⊎ ((f : PageFault) × HasNone s a old new f × (text ≡ fault_line f))

-- whatever report the source gives, if it counts no fault, this is so
abbrev pub OfReport : {S : Type 0} → stream.Ghosts S → S → S → Type 0 → Type 0
OfReport s old new says =
    (bytes : List ℕ) (run : List Report) (found : List Found) (count : ℕ) → s.left old ≡ Some bytes
    → TellsReport bytes run found count → ¬ Rose (s.faults old) (s.faults new) → says

-- the sink gained the text
abbrev pub GainsText : {K : Type 0} → sink.Ghosts K → List ℕ → K → K → Type 0
GainsText k text old new = Told (Appends text) (k.content old) (k.content new)

-- it gained a part of it
abbrev pub GainsPart : {K : Type 0} → sink.Ghosts K → List ℕ → K → K → Type 0
GainsPart k text old new = Told (AppendsPart text) (k.content old) (k.content new)

-- such a text, or a part of one
abbrev pub WritesText : {K : Type 0} → sink.Ghosts K → (List ℕ → Type 0) → K → K → Type 0
WritesText k is old new = (text : List ℕ) × is text × GainsText k text old new

abbrev pub WritesPart : {K : Type 0} → sink.Ghosts K → (List ℕ → Type 0) → K → K → Type 0
WritesPart k is old new = (text : List ℕ) × is text × GainsPart k text old new

-- it counted a fault
abbrev pub Fails : {K : Type 0} → sink.Ghosts K → K → K → Type 0
Fails k old new = Rose (k.faults old) (k.faults new)

-- the page was drawn, unless memory ran out
abbrev pub IsDrawn : PageStatus → Type 0
IsDrawn s = (s ≡ Done) ⊎ (s ≡ Faulty fault.OutOfMemory)
