-- Replies as a client reads them back.
use Rattle.std.specs.Prelude.{◌≡◌, ◌≤◌, ◌<◌, ◌^◌, ℕ, List, [], ◌∷◌, length, flat_map, All}
use Rattle.edr_dialog.specs.declared.frames.TheConstants.{REPLIED}
use Rattle.edr_dialog.specs.Frames.{frame}

-- a frame taken apart: its kind, and what it carries
pub record ReplyFrame : Type 0 where
  pub kind : ℕ
  pub body : List ℕ

abbrev pub frame_bytes : ReplyFrame → List ℕ
frame_bytes f = frame f.kind f.body

-- its kind is that of a reply, and two bytes can say how much it carries
pub record IsReplyFrame (f : ReplyFrame) : Type 0 where
  pub kind : REPLIED ≤ f.kind
  pub short : length f.body < 2 ^ 16

-- the bytes are these frames one after the other
pub record AreReplyFrames (fs : List ReplyFrame) (bytes : List ℕ) : Type 0 where
  pub each : All IsReplyFrame fs
  pub bytes_are : bytes ≡ flat_map frame_bytes fs

-- there is nothing, or what begins no reply, as the first letter of a fault line
abbrev pub BeginsNoReply : List ℕ → Type 0
BeginsNoReply [] = Unit {0}
BeginsNoReply (byte ∷ bytes) = byte < REPLIED
