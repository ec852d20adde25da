pub mod TextsUnbuilt
