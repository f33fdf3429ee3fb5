-- The page's bytes, written out: numbers of two bytes, addresses and categories, and the codes and types that are known by name.
use Prim.Native.Nat.{ℕ, ◌+◌, ◌*◌, ◌/◌, ◌<◌}
use mathlib.Core.Path.{◌≡◌, refl, ap}
use mathlib.Core.Bool.{true, false}
use mathlib.Core.List.{[], ◌∷◌, map}
use native.Mathlib.Omega.{arith}
use lib.Dec.{leb}
use Rattle.tapa.specs.Address.{category_of, sub_address_of, handler_of, multi, psam, till_driver, card, user_interface, merchant, data_store, communication, event}
use Rattle.tapa.specs.Codes.{successful, invalid_destination, handler_error, handler_busy, must_be_opened, unsupported_operation, no_events, no_matching_events, insufficient_resources, invalid_record_pointer, invalid_file_id, record_too_large, search_key_too_large, file_seek_error, search_key_existing, response, icc_command, create_file, delete_file, add_record, get_record, update_record, find_record, delete_record, find_and_delete, clear_file, add_event, get_event, find_event, flush_queue, open_handler, close_handler, event_handler}
use Rattle.tapa.specs.Numbers.{word_at, two_bytes}

-- ---- 'Numbers have the high byte first.'

pub high-first : (word_at (0x55 ∷ 0x01 ∷ 0x02 ∷ []) 1 ≡ 0x0102) × (two_bytes 0x0102 ≡ 0x01 ∷ 0x02 ∷ [])
high-first = (refl, refl)

-- ---- addresses

module _ (category sub : ℕ) where
  -- 'An address is a category byte and a sub-address byte'
  pub address : sub < 256 → (category_of (category * 256 + sub) ≡ category) × (sub_address_of (category * 256 + sub) ≡ sub)
  unfolding category_of sub_address_of
  address l = (omega arith, omega arith)

  -- 'whose top bit asks for an enciphered response. Its handler is the address with that bit cleared.'
  pub handler : sub < 128 → (handler_of (category * 256 + sub) ≡ category * 256 + sub) × (handler_of (category * 256 + (sub + 128)) ≡ category * 256 + sub)
  unfolding handler_of
  handler l = (omega arith, omega arith)

  -- 'House: 00 and 01 are multi (one command a thread), all others single (one altogether).'
  pub of-category : sub < 256 → multi (category * 256 + sub) ≡ leb category 0x01
  unfolding multi
  of-category l =
      let e : (category * 256 + sub) / 256 ≡ category = omega arith in
      ap (λ (c : ℕ). leb c 1) e

pub multis : map (λ (c : ℕ). multi (c * 256)) (0x00 ∷ 0x01 ∷ 0x02 ∷ 0x03 ∷ 0x04 ∷ 0x05 ∷ 0x06 ∷ 0x07 ∷ [])
    ≡ true ∷ true ∷ false ∷ false ∷ false ∷ false ∷ false ∷ false ∷ []
unfolding multi
multis = refl

-- 'Categories (Table 2): 00 PSAM, 01 multi-application driver (the till driver), 02 card, 03 user interface, 04 merchant, 05 data store, 06 communication, 07 event.'
pub categories : psam ∷ till_driver ∷ card ∷ user_interface ∷ merchant ∷ data_store ∷ communication ∷ event ∷ []
    ≡ 0x00 ∷ 0x01 ∷ 0x02 ∷ 0x03 ∷ 0x04 ∷ 0x05 ∷ 0x06 ∷ 0x07 ∷ []
categories = refl

-- 'category 07 only as '0700''
pub event-address : event_handler ≡ 0x0700
event-address = refl

-- ---- codes and types by name

pub codes : successful ∷ invalid_destination ∷ handler_error ∷ handler_busy ∷ must_be_opened ∷ unsupported_operation ∷ no_events ∷ no_matching_events ∷ []
    ≡ 0x0000 ∷ 0xFFF1 ∷ 0xFFF3 ∷ 0xFFF5 ∷ 0xFFF7 ∷ 0xFFFB ∷ 0xFF72 ∷ 0xFF73 ∷ []
codes = refl

pub store-codes : insufficient_resources ∷ invalid_record_pointer ∷ invalid_file_id ∷ record_too_large ∷ search_key_too_large ∷ file_seek_error ∷ search_key_existing ∷ []
    ≡ 0xFFF6 ∷ 0xFF50 ∷ 0xFF51 ∷ 0xFF52 ∷ 0xFF53 ∷ 0xFF56 ∷ 0xFF59 ∷ []
store-codes = refl

pub types : response ∷ icc_command ∷ add_event ∷ get_event ∷ find_event ∷ flush_queue ∷ open_handler ∷ close_handler ∷ []
    ≡ 0xFF ∷ 0x42 ∷ 0xC0 ∷ 0xC1 ∷ 0xC2 ∷ 0xC3 ∷ 0xF0 ∷ 0xF1 ∷ []
types = refl

pub store-types : create_file ∷ delete_file ∷ add_record ∷ get_record ∷ update_record ∷ find_record ∷ delete_record ∷ find_and_delete ∷ clear_file ∷ []
    ≡ 0x90 ∷ 0x91 ∷ 0x92 ∷ 0x93 ∷ 0x94 ∷ 0x95 ∷ 0x96 ∷ 0x97 ∷ 0x98 ∷ []
store-types = refl
