-- What is said of an image that is opened.
use Rattle.std.proofs.Common.{◌≡◌, ◌≢◌, refl, subst, ap, ℕ, inl, List, [], length, slice_index, Option, Some, None, IfSome, Result, Ok, Err, IfOk, IfErr}
use Rattle.edr_device.specs.Device.{StillTells}
use Rattle.edr_image.specs.declared.Header.{Header}
use Rattle.edr_image.specs.declared.OpenFault.{OpenFault}
use Rattle.edr_image.specs.Banks.{Store}
use Rattle.edr_image.specs.Image.{View, image_refusal, view_by}
use Rattle.edr_banks.specs.Formatting.{IsPartlyFormatted}
use Rattle.edr_words.specs.declared.Form.{Form}
use Rattle.edr_cli.specs.Outside.{Memory}
use Rattle.edr_cli.specs.Reports.{IsReported, ReportIs, report_in}
use Rattle.edr_gates.specs.Found.{IsFound, Says}

-- an image that says banks and a count is not refused
pub says_refused : (image : List ℕ) (v : Store) (n : ℕ) (e : OpenFault) → Says image v n → image_refusal image ≢ Some e
unfolding view_by
says_refused image v n e says refused = cc

pub same_view : (v w : View) → Some v ≡ Some w → v ≡ w
same_view v w e = cc

-- what follows of each result follows of this one
pub ok_map : {T E : Type 0} (r : Result T E) (P Q : T → Type 0) → ((x : T) → P x → Q x) → IfOk r P → IfOk r Q
ok_map (Ok x) P Q f p = f x p
ok_map (Err e) P Q f p = p

pub err_map : {T E : Type 0} (r : Result T E) (P Q : E → Type 0) → ((e : E) → P e → Q e) → IfErr r P → IfErr r Q
err_map (Ok x) P Q f p = p
err_map (Err e) P Q f p = f e p

-- what is known of each told content is known where one is told
pub if_each : (P : List ℕ → Type 0) (content : Option (List ℕ)) → ((bytes : List ℕ) → content ≡ Some bytes → P bytes) → IfSome content P
if_each P None each = tt
if_each P (Some bytes) each = each bytes refl

pub told_is : (P : List ℕ → Type 0) (content : Option (List ℕ)) (bytes : List ℕ) → content ≡ Some bytes → IfSome content P → P bytes
told_is P content bytes same p = subst (λ (c : Option (List ℕ)). IfSome c P) same p

-- the report of banks that an image says
pub reported : (form : Form) (old new : Memory) (v : Store) (n : ℕ) (text : List ℕ)
    → ((image : List ℕ) → old.content ≡ Some image → IsFound (record { store = v; count = n }) new.content new.settled image) → text ≡ report_in form [] v n → ReportIs form old new text
reported form old new v n text found is = if_each (λ image. IsReported form image new text) old.content
    (λ image told. record { store = v; count = n; found = found image told; text_is = is })

-- the bytes as they were are no more than partly formatted
pub still_there : (h : Header) (bytes image : List ℕ) → image ≡ bytes → IsPartlyFormatted h bytes image
still_there h bytes image same = record {
  size = ap length same;
  past = λ i from below. ap (λ (x : List ℕ). slice_index x i) same;
  says = inl same;
}

-- bytes that are told again are the same content
pub same_told : (old new : Option (List ℕ)) → StillTells old new → ((image : List ℕ) → old ≡ Some image → new ≡ Some image) → new ≡ old
same_told None None tells same = refl
same_told None (Some b) tells same = absurd tells
same_told (Some a) new tells same = same a refl
