-- What is written where an image is made.
use Rattle.std.specs.Prelude.{ℕ, zero, suc, ◌+◌, ◌-◌, ◌*◌, List, replicate, slice_set}
use Rattle.zone_image.specs.declared.Geometry.{Geometry}
use Rattle.image_backend.specs.Contents.{resized, patched}
use Rattle.image_backend.specs.Format.{header_size}
use Rattle.power_image.specs.Layout.{header_bytes, zones_at, image_bytes}
use Rattle.power_image.specs.Descriptors.{open_gate}

-- bytes that begin behind the header, with the first gate of each of these descriptors open
abbrev pub with_gates : ℕ → List ℕ → List ℕ
with_gates zero bytes = bytes
with_gates (suc n) bytes = slice_set (with_gates n bytes) (4064 + n * 32) open_gate

-- what stands between the header and the zones of a new image: of each descriptor the first gate is open, and all else is zeros
abbrev pub blank_front : Geometry → List ℕ
blank_front g = with_gates g.zones (replicate (zones_at g - header_size) 0)

-- the bytes of a file after an image was made in place of these: its length, what stands before the zones, and the header
abbrev pub new_image : Geometry → List ℕ → List ℕ
new_image g bytes = patched 0 (header_bytes g) (patched header_size (blank_front g) (resized (image_bytes g) bytes))
