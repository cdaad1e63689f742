-- Document 01, "Messages", in plain numbers: the table of options, and Channel ID 255. Nothing here goes by the names of `Kinds` and `Limits`.
use Rattle.std.specs.Prelude.{ℕ, ◌≤◌, ◌≡◌, List, get_or}
use Rattle.wire.specs.Numbers.{big_endian}

-- columns "Type" and "Length"; Datalink Identifier (1), Packet Data (128), Channel Identifier (129) and Expiration Time (130) by 3.3.1 and 3.3.7 to 3.3.9
pub data LengthOf : (kind length : ℕ) → Type 0 where
  datalink_identifier : LengthOf 1 1
  link_instance : {n : ℕ} → 1 ≤ n → n ≤ 8 → LengthOf 3 n
  datalink_context : {n : ℕ} → 1 ≤ n → n ≤ 8 → LengthOf 4 n
  channel_status : LengthOf 5 2
  no_window_lem : LengthOf 6 1
  window : LengthOf 6 5
  packet_data : {n : ℕ} → LengthOf 128 n
  channel_identifier : LengthOf 129 1
  expiration_time : LengthOf 130 4
  flow_sequence : LengthOf 134 5

-- "Channel ID 0 to 254; 255 is reserved"; an Expiration Time is not 0; every other content has a meaning
pub data ValueOf : (kind : ℕ) (content : List ℕ) → Type 0 where
  any_datalink : {content : List ℕ} → ValueOf 1 content
  any_instance : {content : List ℕ} → ValueOf 3 content
  any_context : {content : List ℕ} → ValueOf 4 content
  status_channel : {content : List ℕ} → get_or content 0 0 ≤ 254 → ValueOf 5 content
  window_channel : {content : List ℕ} → get_or content 0 0 ≤ 254 → ValueOf 6 content
  any_packet : {content : List ℕ} → ValueOf 128 content
  own_channel : {content : List ℕ} → get_or content 0 0 ≤ 254 → ValueOf 129 content
  not_zero : {content : List ℕ} → (big_endian content ≡ 0 → ⊥) → ValueOf 130 content
  sequence_channel : {content : List ℕ} → get_or content 0 0 ≤ 254 → ValueOf 134 content
