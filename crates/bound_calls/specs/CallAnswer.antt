-- Request Q-9: what the bound answers of a handler that may call, by the table's numbers, and what becomes of its two path buffers.
use Rattle.std.specs.Prelude.{◌≡◌, List, [], ◌∷◌, ℕ, ◌≤◌, ◌<◌, length}
use Rattle.numbers.specs.Sizes.{last_address}
use Rattle.numbers.specs.ComesBack.{Paper, answered, refused, refused_with, image_of_another_size, record_outside_the_ranges, address_over_8191, excluded_instruction_reachable, repetition_reachable, path_buffer_too_short, recursion_reachable, bound_over_65535}
use Rattle.device.specs.Device.{image_size, rom_of, Banked}
use Rattle.device.specs.declared.Device.{Device}
use Rattle.routines.specs.Answer.{Found, recursion, excluded, repetition, short, too_large, bounds, Kept, Answer}
use Rattle.bound_flow.specs.Flow.{address_of}
use Rattle.bound_calls.specs.CallFlow.{call_flow, call_cycles}

-- the paper's number and values for each case; "The answer adds the greatest depth of calls"
abbrev pub paper_of_found : Found → Paper
paper_of_found (recursion entry) = refused_with recursion_reachable entry
paper_of_found (excluded address) = refused_with excluded_instruction_reachable address
paper_of_found (repetition address) = refused_with repetition_reachable address
paper_of_found too_large = refused bound_over_65535
paper_of_found (short bytes) = refused_with path_buffer_too_short bytes
paper_of_found (bounds N depth) = answered (N ∷ depth ∷ [])

-- refusals in the order 1, 2, 20, 24, 21, 22, 25, 23. The buffers: path of N, deep of the depth
pub data CallAnswer (d : Device) (image : List ℕ) (p3 start : ℕ) (path path' deep deep' : List ℕ) : Paper → Type 0 where
  gives_1 : (length image ≡ image_size d → ⊥) → Kept path path' deep deep' → CallAnswer d image p3 start path path' deep deep' (refused image_of_another_size)
  gives_2 : length image ≡ image_size d → (Banked d p3 → ⊥) → Kept path path' deep deep' → CallAnswer d image p3 start path path' deep deep' (refused record_outside_the_ranges)
  gives_20 : length image ≡ image_size d → Banked d p3 → last_address < start → Kept path path' deep deep' → CallAnswer d image p3 start path path' deep deep' (refused address_over_8191)
  by_flow : {x : Found} → length image ≡ image_size d → Banked d p3 → start ≤ last_address
      → Answer (call_flow d (rom_of image p3) start) (call_cycles d (rom_of image p3)) address_of path path' deep deep' x → CallAnswer d image p3 start path path' deep deep' (paper_of_found x)

-- what comes back, and what the buffers become
pub record Answered (d : Device) (image : List ℕ) (p3 start : ℕ) (path deep : List ℕ) : Type 0 where
  pub paper : Paper
  pub path' : List ℕ
  pub deep' : List ℕ
  pub answer : CallAnswer d image p3 start path path' deep deep' paper

-- every image of bytes, P3, start and pair of buffers has an answer, and only one
pub record ExactlyOne (d : Device) (image : List ℕ) (p3 start : ℕ) (path deep : List ℕ) : Type 0 where
  pub some : Answered d image p3 start path deep
  pub one : (a b : Answered d image p3 start path deep) → (a.paper ≡ b.paper) × (a.path' ≡ b.path') × (a.deep' ≡ b.deep')

abbrev pub OneAnswerWithCalls : Type 0
OneAnswerWithCalls = (d : Device) (image : List ℕ) (p3 start : ℕ) (path deep : List ℕ) → ((p3 at : ℕ) → rom_of image p3 at < 256) → ExactlyOne d image p3 start path deep
